-- The lateral inflow of a node (User's Manual, sections [INFLOWS] and [DWF]; this project's profile).
use Rattle.std.specs.Prelude.{ℕ, ◌^◌, ℤ, pos, neg_ℤ, ◌+ℤ◌}
use Rattle.calendar_steps.specs.Moment.{point_on}
use Rattle.calendar_steps.specs.declared.point.CalendarPoint.{CalendarPoint}
use Rattle.fixed_num.specs.Ranges.{cut_of, IsMoment}
use Rattle.fixed_num.specs.Sums.{sum_over}
use Rattle.net_types.specs.declared.project.Project.{Project}
use Rattle.time_series.specs.Inflows.{dry_at, inflow_at}

-- a moment of a run, in ms since its start, lies in the years of the calendar
abbrev pub IsRunMoment : Project → ℤ → Type 0
IsRunMoment project moment = IsMoment (project.options.start +ℤ moment)

-- what the calendar shows at a moment of a run
abbrev pub run_point : Project → ℤ → CalendarPoint
run_point project moment = point_on (project.options.start +ℤ moment)

-- the sum of what all inflows and all dry weather flows add at a node
unfoldable pub gross_lateral : Project → (node : ℕ) (moment : ℤ) → ℤ
gross_lateral project node moment =
    let point = run_point project moment in
    sum_over (inflow_at project moment point node) project.inflows +ℤ sum_over (dry_at project point node) project.dry

-- the lateral inflow of a node, in cm³/s: that sum brought into 10^12 to either side
abbrev pub lateral_at : Project → (node : ℕ) (moment : ℤ) → ℤ
lateral_at project node moment = cut_of (gross_lateral project node moment) (neg_ℤ (pos (10 ^ 12))) (pos (10 ^ 12))
