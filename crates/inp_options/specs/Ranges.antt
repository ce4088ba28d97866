-- The ranges of what options set (User's Manual, section [OPTIONS]).
use Rattle.std.specs.Prelude.{ℕ, ◌≤◌, ◌^◌, ⊤, ℤ, pos, neg_ℤ}
use Rattle.fixed_num.specs.Ranges.{IsBetween, IsEven}
use Rattle.inp_lines.specs.declared.reading.Reading.{Reading}
use Rattle.inp_lines.specs.declared.reading.Reading.TheVariants.{Other, Record, Faulty}
use Rattle.inp_options.specs.declared.setting.Setting.{Setting}
use Rattle.inp_options.specs.declared.setting.Setting.TheVariants as setting

-- 1 to 20 trials
pub record IsTrials (n : ℕ) : Type 0 where
  pub from : 1 ≤ n
  pub to : n ≤ 20

-- a day of the years 1900 to 2200, and a time of the day in ms
abbrev pub IsDay : ℤ → Type 0
IsDay day = IsBetween (neg_ℤ (pos 25_567)) day (pos 84_370)

abbrev pub IsTime : ℤ → Type 0
IsTime ms = IsBetween (pos 0) ms (pos 86_399_999)

-- steps in ms
abbrev pub IsReportStep : ℤ → Type 0
IsReportStep ms = IsBetween (pos 1_000) ms (pos 86_400_000)

abbrev pub IsWetStep : ℤ → Type 0
IsWetStep ms = IsBetween (pos 1_000) ms (pos 3_600_000)

abbrev pub IsRoutingStep : ℤ → Type 0
IsRoutingStep ms = IsBetween (pos 10) ms (pos 3_600_000)

-- a part of the travel time in millionths
abbrev pub IsVariableStep : ℤ → Type 0
IsVariableStep part6 = IsBetween (pos 0) part6 (pos 2_000_000)

-- the least surface area of a node in mm², and the head tolerance in µm
abbrev pub IsMinArea : ℤ → Type 0
IsMinArea area = IsBetween (pos 10_000) area (pos (10 ^ 13))

abbrev pub IsTolerance : ℤ → Type 0
IsTolerance height = IsBetween (pos 1) height (pos (10 ^ 9))

-- what a line sets lies in its range; times of the day and routing steps are even numbers of ms
abbrev pub IsInRange : Setting → Type 0
IsInRange (setting.StartDate day) = IsDay day
IsInRange (setting.EndDate day) = IsDay day
IsInRange (setting.StartTime ms) = IsTime ms × IsEven ms
IsInRange (setting.EndTime ms) = IsTime ms × IsEven ms
IsInRange (setting.ReportStep ms) = IsReportStep ms
IsInRange (setting.WetStep ms) = IsWetStep ms
IsInRange (setting.RoutingStep ms) = IsRoutingStep ms × IsEven ms
IsInRange (setting.VariableStep part6) = IsVariableStep part6
IsInRange (setting.MinArea area) = IsMinArea area
IsInRange (setting.Tolerance height) = IsTolerance height
IsInRange (setting.MaxTrials n) = IsTrials n
IsInRange _ = ⊤

abbrev pub IsReading : Reading Setting → Type 0
IsReading Other = ⊤
IsReading (Record setting) = IsInRange setting
IsReading (Faulty fault) = ⊤
