-- What a line of inflow adds to its node at a moment (User's Manual, sections [INFLOWS] and [DWF]; the rounding is
-- this project's profile).
use Rattle.std.specs.Prelude.{ℕ, ◌==◌, Bool, true, ◌&&◌, if◌then◌else◌, List, Option, Some, None, ℤ, pos, ◌+ℤ◌, ◌*ℤ◌}
use Rattle.std.specs.List.{fold, list_any}
use Rattle.calendar_steps.specs.declared.point.CalendarPoint.{CalendarPoint}
use Rattle.fixed_num.specs.Rounding.{quo_of}
use Rattle.inp_values.specs.Units.{flow_num, flow_den}
use Rattle.net_types.specs.declared.inflows.DryFlow.{DryFlow}
use Rattle.net_types.specs.declared.inflows.Inflow.{Inflow}
use Rattle.net_types.specs.declared.options.FlowUnits.{FlowUnits}
use Rattle.net_types.specs.declared.project.Project.{Project}
use Rattle.net_types.specs.declared.tables.Pattern.{Pattern}
use Rattle.net_types.specs.declared.tables.Series.{Series}
use Rattle.net_types.specs.Records.{pattern_at, series_at}
use Rattle.time_series.specs.Patterns.{is_hourly, is_of_weekends, is_weekend, pattern_factor_of}
use Rattle.time_series.specs.SeriesValues.{series_value}

-- millionths of the flow unit, in cm³/s
unfoldable pub flow_of : FlowUnits → (amount6 : ℤ) → ℤ
flow_of units amount6 = quo_of (amount6 *ℤ pos (flow_num units)) (pos (flow_den units) *ℤ pos 1_000_000)

-- an amount in millionths times a factor in millionths
unfoldable pub times6 : (amount factor6 : ℤ) → ℤ
times6 amount factor6 = quo_of (amount *ℤ factor6) (pos 1_000_000)

-- ---- direct inflows the value of an inflow's series; without one it is 0
abbrev pub series_part : List Series → Option ℕ → (moment : ℤ) → ℤ
series_part series (Some k) moment = series_value (series_at series k).entries moment true
series_part series None moment = pos 0

-- the factor of an inflow's pattern; without one it is 1
abbrev pub pattern_part : List Pattern → Option ℕ → CalendarPoint → ℤ
pattern_part patterns (Some k) point = pattern_factor_of (pattern_at patterns k) point
pattern_part patterns None point = pos 1_000_000

-- scale times the series, and the baseline times the pattern's factor, in millionths of the flow unit
abbrev pub inflow_amount : Project → (moment : ℤ) → CalendarPoint → Inflow → ℤ
inflow_amount project moment point inflow =
    times6 inflow.scale6 (series_part project.series inflow.series moment)
    +ℤ times6 inflow.base6 (pattern_part project.patterns inflow.pattern point)

-- what an inflow adds at a node, in cm³/s
abbrev pub inflow_at : Project → (moment : ℤ) → CalendarPoint → (node : ℕ) → Inflow → ℤ
inflow_at project moment point node inflow =
    if inflow.node == node then flow_of project.options.units (inflow_amount project moment point inflow) else pos 0

-- ---- dry weather flows a line has a pattern of weekends
abbrev pub has_weekends : List Pattern → List ℕ → Bool
has_weekends patterns numbers = list_any (λ k. is_of_weekends (pattern_at patterns k).kind) numbers

-- the factor of one of a line's patterns: beside a pattern of weekends, one of hours counts as 1 on Saturday and
-- Sunday
abbrev pub beside_weekends : (beside : Bool) → Pattern → CalendarPoint → ℤ
beside_weekends beside pattern point =
    if beside && is_hourly pattern.kind && is_weekend point then pos 1_000_000 else pattern_factor_of pattern point

-- the base of a line changed by each of its factors in turn, in millionths of the flow unit
abbrev pub dry_amount : List Pattern → CalendarPoint → DryFlow → ℤ
dry_amount patterns point dry =
    let beside = has_weekends patterns dry.patterns in
    fold (λ amount k. times6 amount (beside_weekends beside (pattern_at patterns k) point)) dry.base6 dry.patterns

-- what a dry weather flow adds at a node, in cm³/s
abbrev pub dry_at : Project → CalendarPoint → (node : ℕ) → DryFlow → ℤ
dry_at project point node dry =
    if dry.node == node then flow_of project.options.units (dry_amount project.patterns point dry) else pos 0
