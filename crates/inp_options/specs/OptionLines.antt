-- What an option line sets, or the fault that it has (User's Manual, section [OPTIONS]).
use Rattle.std.specs.Prelude.{ℕ, Bool, true, false, cond, List, [], ◌∷◌, pos, Option, Some, None, Result, Ok, Err}
use Rattle.net_types.specs.declared.faults.LineFault.{LineFault}
use Rattle.net_types.specs.declared.options.FlowUnits.{FlowUnits}
use Rattle.net_types.specs.declared.options.FlowUnits.TheVariants.{Cfs}
use Rattle.fixed_num.specs.Decimal.{scaled_of}
use Rattle.inp_lines.specs.declared.fault.Fault.{Fault}
use Rattle.inp_lines.specs.declared.line.Line.{Line}
use Rattle.inp_lines.specs.declared.line.SectionName.{SectionName}
use Rattle.inp_lines.specs.declared.line.SectionName.TheVariants as section
use Rattle.inp_lines.specs.declared.reading.Reading.{Reading}
use Rattle.inp_lines.specs.declared.reading.Reading.TheVariants.{Other, Record, Faulty}
use Rattle.inp_lines.specs.Faults.{too_few_of}
use Rattle.inp_lines.specs.Gather.{walk_fault}
use Rattle.inp_lines.specs.Readings.{is_long, needed_of, and_then, reading_from}
use Rattle.inp_values.specs.CalendarDate.{date_of}
use Rattle.inp_values.specs.Clock.{clock_of, time_of_day_of}
use Rattle.inp_values.specs.Duration.{seconds_of}
use Rattle.inp_values.specs.Field.{whole_of}
use Rattle.inp_values.specs.Switch.{switch_of}
use Rattle.inp_values.specs.Units.{unit_for}
use Rattle.inp_values.specs.declared.quantities.Quantity.TheVariants.{Raw}
use Rattle.inp_options.specs.declared.names.OptionKind.{OptionKind}
use Rattle.inp_options.specs.declared.names.OptionKind.TheVariants as option
use Rattle.net_types.specs.declared.faults.FaultKind.{FaultKind}
use Rattle.net_types.specs.declared.faults.FaultKind.TheVariants.{InvalidKeyword, InvalidNumber}
use Rattle.net_types.specs.declared.faults.FaultKind.TheVariants.{InvalidTime, NotInProfile}
use Rattle.inp_options.specs.declared.setting.Setting.{Setting}
use Rattle.inp_options.specs.declared.setting.Setting.TheVariants as setting
use Rattle.inp_options.specs.Keywords.{units_named, infiltration_named, damping_named, limiter_named}
use Rattle.inp_options.specs.Keywords.{method_named, offsets_named, is_dynamic_wave}
use Rattle.inp_options.specs.OptionNames.{option_named}
use Rattle.inp_options.specs.Values.{within, is_zero, area_of, tolerance_of, trials_of, variable_of, built_of, off_of}

-- a value of the second token as a setting, or the fault of a text that is none
abbrev pub set_by : {A : Type 0} → (A → Setting) → Option A → FaultKind → Result Setting Fault
set_by setting value kind = and_then (needed_of value kind 1) (λ v. Ok (setting v))

-- what the second token sets for an option
unfoldable pub setting_by : FlowUnits → OptionKind → List ℕ → Result Setting Fault
setting_by units option.FlowUnits text = set_by setting.Units (units_named text) InvalidKeyword
setting_by units option.Infiltration text = set_by setting.Infiltration (infiltration_named text) NotInProfile
setting_by units option.FlowRouting text = built_of (is_dynamic_wave text)
setting_by units option.StartDate text = set_by setting.StartDate (date_of text) InvalidTime
setting_by units option.StartTime text = set_by setting.StartTime (time_of_day_of text) InvalidTime
setting_by units option.EndDate text = set_by setting.EndDate (date_of text) InvalidTime
setting_by units option.EndTime text = set_by setting.EndTime (time_of_day_of text) InvalidTime
setting_by units option.ReportStep text =
    set_by setting.ReportStep (within (pos 1_000) (pos 86_400_000) (clock_of text)) InvalidTime
setting_by units option.WetStep text =
    set_by setting.WetStep (within (pos 1_000) (pos 3_600_000) (clock_of text)) InvalidTime
setting_by units option.RoutingStep text =
    set_by setting.RoutingStep (within (pos 10) (pos 3_600_000) (seconds_of text)) InvalidTime
setting_by units option.VariableStep text = set_by setting.VariableStep (variable_of text) InvalidNumber
setting_by units option.AllowPonding text = set_by setting.Ponding (switch_of text) InvalidKeyword
setting_by units option.InertialDamping text = set_by setting.Inertia (damping_named text) InvalidKeyword
setting_by units option.NormalFlowLimited text = set_by setting.NormalFlow (limiter_named text) InvalidKeyword
setting_by units option.MinSurfArea text = set_by setting.MinArea (area_of units text) InvalidNumber
setting_by units option.HeadTolerance text = set_by setting.Tolerance (tolerance_of units text) InvalidNumber
setting_by units option.MaxTrials text = and_then (trials_of (whole_of text)) (λ n. Ok (setting.MaxTrials n))
setting_by units option.Threads text = set_by setting.Threads (whole_of text) InvalidNumber
setting_by units option.LinkOffsets text = off_of (offsets_named text)
setting_by units option.RuleStep text = built_of (is_zero (clock_of text))
setting_by units option.SurchargeMethod text = set_by setting.Extran (method_named text) InvalidKeyword
setting_by units option.Zero text = built_of (is_zero (scaled_of (unit_for Cfs Raw) text))
setting_by units option.No text = off_of (switch_of text)
setting_by units option.Unused text = Ok setting.Fixed

-- what the tokens of an option line set: its name is looked up once it has two
abbrev pub setting_of : FlowUnits → List (List ℕ) → Result Setting Fault
setting_of units (name ∷ text ∷ rest) =
    and_then (needed_of (option_named name) InvalidKeyword 0) (λ option. setting_by units option text)
setting_of units (name ∷ []) = Err (too_few_of (name ∷ []))
setting_of units [] = Err (too_few_of [])

-- the lines of the section
abbrev pub at_options : {A : Type 0} → A → SectionName → A → A
at_options other section.Options here = here
at_options other _ here = other

-- what a line is read as; a line that is too long is read no further
unfoldable pub reading_of : FlowUnits → Line → Reading Setting
reading_of units line =
    at_options Other line.section (cond (is_long line) Other (reading_from (setting_of units line.tokens)))

-- the fault of what a line is read as
abbrev pub fault_of : Reading Setting → Option Fault
fault_of Other = None
fault_of (Record setting) = None
fault_of (Faulty fault) = Some fault

-- the faults of option lines
abbrev pub option_fault : FlowUnits → List Line → Line → List LineFault
option_fault units = walk_fault (λ before line. fault_of (reading_of units line))

abbrev pub is_options : SectionName → Bool
is_options section.Options = true
is_options _ = false
