-- The stage of an outfall at a moment (User's Manual, section [OUTFALLS]; the rounding is this project's profile).
use Rattle.std.specs.Prelude.{ℕ, ◌^◌, false, ℤ, pos, neg_ℤ, ◌*ℤ◌}
use Rattle.calendar_steps.specs.declared.point.CalendarPoint.{CalendarPoint}
use Rattle.fixed_num.specs.Ranges.{cut_of}
use Rattle.fixed_num.specs.Rounding.{quo_of}
use Rattle.inp_values.specs.Units.{unit_for}
use Rattle.inp_values.specs.declared.quantities.Quantity.TheVariants.{Elevation}
use Rattle.net_types.specs.declared.network.NodeKind.{NodeKind}
use Rattle.net_types.specs.declared.network.NodeKind.TheVariants.{Junction, Outfall, Storage}
use Rattle.net_types.specs.declared.network.Stage.{Stage}
use Rattle.net_types.specs.declared.network.Stage.TheVariants.{Free, Normal, Fixed, Tidal, Series}
use Rattle.net_types.specs.declared.options.FlowUnits.{FlowUnits}
use Rattle.net_types.specs.declared.project.Project.{Project}
use Rattle.net_types.specs.Records.{curve_at, node_at, series_at}
use Rattle.rising_pairs.specs.Readings.{held_value}
use Rattle.time_series.specs.LateralFlow.{run_point}
use Rattle.time_series.specs.SeriesValues.{series_value}

-- the hour of the day in millionths, at which a tidal curve is read
unfoldable pub hour6_of : CalendarPoint → ℤ
hour6_of point = quo_of (point.ms_of_day *ℤ pos 1_000_000) (pos 3_600_000)

-- millionths of the user's unit of an elevation, in µm and brought into the range of an elevation
unfoldable pub elevation_of : FlowUnits → (value6 : ℤ) → ℤ
elevation_of units value6 =
    let unit = unit_for units Elevation in
    cut_of (quo_of (value6 *ℤ pos unit.num) (pos unit.den *ℤ pos 1_000_000)) (neg_ℤ (pos (10 ^ 10))) (pos (10 ^ 10))

-- the level of a stage, in µm; a free and a normal outfall have none of their own
abbrev pub stage_level : Project → (moment : ℤ) → Stage → ℤ
stage_level project moment Free = pos 0
stage_level project moment Normal = pos 0
stage_level project moment (Fixed level) = level
stage_level project moment (Tidal curve) =
    elevation_of project.options.units (held_value (curve_at project.curves curve).points
    (hour6_of (run_point project moment)))
stage_level project moment (Series series) =
    elevation_of project.options.units (series_value (series_at project.series series).entries moment false)

-- the stage of a node; only outfalls have one
abbrev pub kind_stage : Project → (moment : ℤ) → NodeKind → ℤ
kind_stage project moment (Junction surcharge pond) = pos 0
kind_stage project moment (Outfall stage gated) = stage_level project moment stage
kind_stage project moment (Storage shape) = pos 0

abbrev pub stage_at : Project → (node : ℕ) (moment : ℤ) → ℤ
stage_at project node moment = kind_stage project moment (node_at project.nodes node).kind
