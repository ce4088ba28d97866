-- The ranges of each record of a project (User's Manual, appendix D; the ranges are this project's profile).
use Rattle.std.specs.Prelude.{◌≡◌, ℕ, ◌*◌, ◌^◌, ◌<◌, ◌≤◌, List, length, IfSome, ℤ, pos, ◌<ℤ◌}
use Rattle.std.specs.Bool.{⊤}
use Rattle.std.specs.List.{All}
use Rattle.fixed_num.specs.Ranges.{IsBetween, IsConduitLength, IsElevation, IsDepth}
use Rattle.fixed_num.specs.Ranges.{IsFullHeight, IsWidth, AreBarrels, IsSmallDepth, IsRate}
use Rattle.fixed_num.specs.Ranges.{IsLandArea, IsNodeArea, IsLeastArea, IsFlow, IsFlowLimit}
use Rattle.fixed_num.specs.Ranges.{IsRoughness, IsPart, IsCoefficient, IsRaw, IsRawAmount}
use Rattle.fixed_num.specs.Ranges.{IsDryingTime, IsDuration, IsTimeOfDay, IsSeriesTime, IsMoment, IsEven}
use Rattle.net_types.specs.declared.hydrology.Gage.{Gage}
use Rattle.net_types.specs.declared.hydrology.Infil.{Infil}
use Rattle.net_types.specs.declared.hydrology.Infil.TheVariants.{Horton, Number}
use Rattle.net_types.specs.declared.hydrology.Sub.{Sub}
use Rattle.net_types.specs.declared.hydrology.SubAreas.{SubAreas}
use Rattle.net_types.specs.declared.inflows.DryFlow.{DryFlow}
use Rattle.net_types.specs.declared.inflows.Inflow.{Inflow}
use Rattle.net_types.specs.declared.network.Link.{Link}
use Rattle.net_types.specs.declared.network.LinkKind.{LinkKind}
use Rattle.net_types.specs.declared.network.LinkKind.TheVariants.{Conduit, Pump, Orifice, Weir}
use Rattle.net_types.specs.declared.network.Node.{Node}
use Rattle.net_types.specs.declared.network.NodeKind.{NodeKind}
use Rattle.net_types.specs.declared.network.NodeKind.TheVariants.{Junction, Outfall, Storage}
use Rattle.net_types.specs.declared.network.Section.{Section}
use Rattle.net_types.specs.declared.network.Shape.{Shape}
use Rattle.net_types.specs.declared.network.Shape.TheVariants.{RectOpen, RectClosed, Trapezoidal, Triangular, Circular}
use Rattle.net_types.specs.declared.network.Stage.{Stage}
use Rattle.net_types.specs.declared.network.Stage.TheVariants.{Free, Normal, Fixed, Tidal, Series as SeriesStage}
use Rattle.net_types.specs.declared.network.StoreShape.{StoreShape}
use Rattle.net_types.specs.declared.network.StoreShape.TheVariants.{Tabular, Functional}
use Rattle.net_types.specs.declared.options.InfilKind.{InfilKind}
use Rattle.net_types.specs.declared.options.InfilKind.TheVariants.{ModifiedHorton, CurveNumber}
use Rattle.net_types.specs.declared.options.Options.{Options}
use Rattle.net_types.specs.declared.rules.Action.{Action}
use Rattle.net_types.specs.declared.rules.Rule.{Rule}
use Rattle.net_types.specs.declared.rules.Subject.{Subject}
use Rattle.net_types.specs.declared.rules.Subject.TheVariants.{NodeDepth, NodeHead, NodeInflow, LinkFlow}
use Rattle.net_types.specs.declared.rules.Subject.TheVariants.{LinkSetting, Elapsed, ClockTime, Month, Weekday}
use Rattle.net_types.specs.declared.rules.Test.{Test}
use Rattle.net_types.specs.declared.tables.Curve.{Curve}
use Rattle.net_types.specs.declared.tables.Pattern.{Pattern}
use Rattle.net_types.specs.declared.tables.PatternKind.{PatternKind}
use Rattle.net_types.specs.declared.tables.PatternKind.TheVariants.{Monthly, Daily, Hourly, Weekend}
use Rattle.net_types.specs.declared.tables.Series.{Series}
use Rattle.net_types.specs.Records.{pair_at}

-- ---- options: moments of the years 1900 to 2200, steps, least area and tolerance of nodes, 1 to 20 trials, and a part
-- of the travel time of 0 to 2; start, end and routing step are even numbers of ms, and the runoff step is in whole
-- seconds
pub record OptionsInRange (options : Options) : Type 0 where
  pub start_in : IsMoment options.start
  pub start_even : IsEven options.start
  pub finish_in : IsMoment options.finish
  pub finish_even : IsEven options.finish
  pub report_in : IsBetween (pos 1_000) options.report_ms (pos 86_400_000)
  pub wet_in : IsBetween (pos 1_000) options.wet_ms (pos 3_600_000)
  pub step_in : IsBetween (pos 10) options.step_ms (pos 3_600_000)
  pub step_even : IsEven options.step_ms
  pub variable_in : IsBetween (pos 0) options.variable6 (pos 2_000_000)
  pub area_in : IsLeastArea options.min_area
  pub tolerance_in : IsBetween (pos 1) options.tolerance (pos (10 ^ 9))
  pub some_trials : 1 ≤ options.max_trials
  pub few_trials : options.max_trials ≤ 20

-- ---- a rain gage: an interval of a minute to a day
pub record GageInRange (gage : Gage) : Type 0 where
  pub interval_in : IsBetween (pos 60_000) gage.interval (pos 86_400_000)

-- ---- a subcatchment
pub record SubAreasInRange (areas : SubAreas) : Type 0 where
  pub n_imperv_in : IsRoughness areas.n_imperv6
  pub n_perv_in : IsRoughness areas.n_perv6
  pub s_imperv_in : IsSmallDepth areas.s_imperv
  pub s_perv_in : IsSmallDepth areas.s_perv
  pub zero_in : IsPart areas.zero6

pub record HortonInRange (max min decay6 dry volume : ℤ) : Type 0 where
  pub max_in : IsRate max
  pub min_in : IsRate min
  pub decay_in : IsCoefficient decay6
  pub dry_in : IsDryingTime dry
  pub volume_in : IsSmallDepth volume

-- a curve number of 1 to 100
pub record CurveNumberInRange (cn6 dry : ℤ) : Type 0 where
  pub number_in : IsBetween (pos 1_000_000) cn6 (pos 100_000_000)
  pub dry_in : IsDryingTime dry

abbrev pub InfilInRange : Infil → Type 0
InfilInRange (Horton max min decay6 dry volume) = HortonInRange max min decay6 dry volume
InfilInRange (Number cn6 dry) = CurveNumberInRange cn6 dry

-- an infiltration is of the options' kind
abbrev pub IsOfKind : InfilKind → Infil → Type 0
IsOfKind ModifiedHorton (Horton max min decay6 dry volume) = ⊤
IsOfKind ModifiedHorton (Number cn6 dry) = ⊥
IsOfKind CurveNumber (Horton max min decay6 dry volume) = ⊥
IsOfKind CurveNumber (Number cn6 dry) = ⊤

pub record SubInRange (sub : Sub) : Type 0 where
  pub area_in : IsLandArea sub.area
  pub imperv_in : IsPart sub.imperv6
  pub width_in : IsWidth sub.width
  pub slope_in : IsPart sub.slope6
  pub sub_areas_in : IfSome sub.sub_areas SubAreasInRange
  pub infil_in : IfSome sub.infil InfilInRange

-- ---- a node
abbrev pub StageInRange : Stage → Type 0
StageInRange Free = ⊤
StageInRange Normal = ⊤
StageInRange (Fixed level) = IsElevation level
StageInRange (Tidal curve) = ⊤
StageInRange (SeriesStage series) = ⊤

-- the coefficients of a functional storage, and its power in halves, 0 to 3
pub record FunctionalInRange (a1 : ℤ) (halves : ℕ) (a0 : ℤ) : Type 0 where
  pub a1_in : IsRawAmount a1
  pub halves_in : halves ≤ 6
  pub a0_in : IsRawAmount a0

abbrev pub StoreShapeInRange : StoreShape → Type 0
StoreShapeInRange (Tabular curve) = ⊤
StoreShapeInRange (Functional a1 halves a0) = FunctionalInRange a1 halves a0

pub record JunctionInRange (surcharge pond : ℤ) : Type 0 where
  pub surcharge_in : IsDepth surcharge
  pub pond_in : IsNodeArea pond

abbrev pub NodeKindInRange : NodeKind → Type 0
NodeKindInRange (Junction surcharge pond) = JunctionInRange surcharge pond
NodeKindInRange (Outfall stage gated) = StageInRange stage
NodeKindInRange (Storage shape) = StoreShapeInRange shape

pub record NodeInRange (node : Node) : Type 0 where
  pub invert_in : IsElevation node.invert
  pub y_max_in : IsDepth node.y_max
  pub y0_in : IsDepth node.y0
  pub kind_in : NodeKindInRange node.kind

-- ---- a link
pub record TrapezoidInRange (bottom left6 right6 : ℤ) : Type 0 where
  pub bottom_in : IsWidth bottom
  pub left_in : IsCoefficient left6
  pub right_in : IsCoefficient right6

abbrev pub ShapeInRange : Shape → Type 0
ShapeInRange (RectOpen width) = IsWidth width
ShapeInRange (RectClosed width) = IsWidth width
ShapeInRange (Trapezoidal bottom left6 right6) = TrapezoidInRange bottom left6 right6
ShapeInRange (Triangular top) = IsWidth top
ShapeInRange Circular = ⊤

pub record SectionInRange (found : Section) : Type 0 where
  pub shape_in : ShapeInRange found.shape
  pub full_in : IsFullHeight found.full
  pub barrels_in : AreBarrels found.barrels

pub record ConduitInRange (long n6 z1 z2 q0 q_max entry6 exit6 avg6 : ℤ) : Type 0 where
  pub long_in : IsConduitLength long
  pub roughness_in : IsRoughness n6
  pub z1_in : IsDepth z1
  pub z2_in : IsDepth z2
  pub q0_in : IsFlow q0
  pub q_max_in : IsFlowLimit q_max
  pub entry_in : IsCoefficient entry6
  pub exit_in : IsCoefficient exit6
  pub avg_in : IsCoefficient avg6

pub record PumpInRange (startup shutoff : ℤ) : Type 0 where
  pub startup_in : IsDepth startup
  pub shutoff_in : IsDepth shutoff

pub record OrificeInRange (offset cd6 : ℤ) : Type 0 where
  pub offset_in : IsDepth offset
  pub cd_in : IsCoefficient cd6

-- 0, 1 or 2 end contractions
pub record WeirInRange (crest cd6 contractions : ℤ) : Type 0 where
  pub crest_in : IsDepth crest
  pub cd_in : IsCoefficient cd6
  pub contractions_in : IsBetween (pos 0) contractions (pos 2)

abbrev pub LinkKindInRange : LinkKind → Type 0
LinkKindInRange (Conduit long n6 z1 z2 q0 q_max entry6 exit6 avg6 flap) =
    ConduitInRange long n6 z1 z2 q0 q_max entry6 exit6 avg6
LinkKindInRange (Pump curve on startup shutoff) = PumpInRange startup shutoff
LinkKindInRange (Orifice bottom offset cd6 flap) = OrificeInRange offset cd6
LinkKindInRange (Weir notch crest cd6 flap contractions) = WeirInRange crest cd6 contractions

pub record LinkInRange (link : Link) : Type 0 where
  pub kind_in : LinkKindInRange link.kind
  pub section_in : IfSome link.section SectionInRange

-- ---- curves, series and patterns
-- the first numbers of pairs rise: each is less than all later ones
pub record IsRising (pairs : List (ℤ × ℤ)) : Type 0 where
  pub each : (i j : ℕ) → i < j → j < length pairs → (pair_at pairs i).0 <ℤ (pair_at pairs j).0

pub record PointInRange (point : ℤ × ℤ) : Type 0 where
  pub x_in : IsRaw point.0
  pub y_in : IsRaw point.1

-- a curve has a point, and its points rise
pub record CurveInRange (curve : Curve) : Type 0 where
  pub some : 1 ≤ length curve.points
  pub points_in : All PointInRange curve.points
  pub rising : IsRising curve.points

pub record EntryInRange (entry : ℤ × ℤ) : Type 0 where
  pub time_in : IsSeriesTime entry.0
  pub value_in : IsRaw entry.1

-- a series has an entry, and its times rise
pub record SeriesInRange (series : Series) : Type 0 where
  pub some : 1 ≤ length series.entries
  pub entries_in : All EntryInRange series.entries
  pub rising : IsRising series.entries

-- how many factors a pattern may have; those that it lacks are 1
abbrev pub most_factors : PatternKind → ℕ
most_factors Monthly = 12
most_factors Daily = 7
most_factors Hourly = 24
most_factors Weekend = 24

pub record PatternInRange (pattern : Pattern) : Type 0 where
  pub few : length pattern.factors6 ≤ most_factors pattern.kind
  pub factors_in : All IsCoefficient pattern.factors6

-- ---- inflows
pub record InflowInRange (inflow : Inflow) : Type 0 where
  pub scale_in : IsRaw inflow.scale6
  pub base_in : IsRaw inflow.base6

-- a dry weather flow has at most four patterns
pub record DryFlowInRange (dry : DryFlow) : Type 0 where
  pub base_in : IsRaw dry.base6
  pub few : length dry.patterns ≤ 4

-- ---- control rules
abbrev pub ValueInRange : Subject → ℤ → Type 0
ValueInRange (NodeDepth node) value = IsDepth value
ValueInRange (NodeHead node) value = IsElevation value
ValueInRange (NodeInflow node) value = IsFlow value
ValueInRange (LinkFlow link) value = IsFlow value
ValueInRange (LinkSetting link) value = IsCoefficient value
ValueInRange Elapsed value = IsDuration value
ValueInRange ClockTime value = IsTimeOfDay value
ValueInRange Month value = IsBetween (pos 1) value (pos 12)
ValueInRange Weekday value = IsBetween (pos 1) value (pos 7)

pub record TestInRange (test : Test) : Type 0 where
  pub value_in : ValueInRange test.subject test.value

pub record ActionInRange (action : Action) : Type 0 where
  pub setting_in : IsPart action.setting6

-- each group of a rule has a test
pub record GroupInRange (group : List Test) : Type 0 where
  pub some : 1 ≤ length group
  pub tests_in : All TestInRange group

-- a rule has a group, and an action for the time when all its groups hold
pub record RuleInRange (rule : Rule) : Type 0 where
  pub some_groups : 1 ≤ length rule.groups
  pub groups_in : All GroupInRange rule.groups
  pub some_acts : 1 ≤ length rule.then_acts
  pub then_in : All ActionInRange rule.then_acts
  pub else_in : All ActionInRange rule.else_acts
  pub priority_in : IfSome rule.priority6 IsRaw
