-- A sound project: its records lie in their ranges, its numbers name objects of it, and none of its counts is over a
-- limit (this project's profile).
use Rattle.std.specs.Prelude.{◌≡◌, ℕ, ◌+◌, ◌<◌, ◌≤◌, List, length, sum_by, IfSome}
use Rattle.std.specs.Bool.{⊤}
use Rattle.std.specs.List.{All}
use Rattle.fixed_num.specs.declared.constants.TheConstants.{RECORD_LIMIT}
use Rattle.net_types.specs.declared.hydrology.Gage.{Gage}
use Rattle.net_types.specs.declared.hydrology.Sub.{Sub}
use Rattle.net_types.specs.declared.inflows.DryFlow.{DryFlow}
use Rattle.net_types.specs.declared.inflows.Inflow.{Inflow}
use Rattle.net_types.specs.declared.network.Link.{Link}
use Rattle.net_types.specs.declared.network.LinkKind.{LinkKind}
use Rattle.net_types.specs.declared.network.LinkKind.TheVariants.{Conduit, Pump, Orifice, Weir}
use Rattle.net_types.specs.declared.network.Node.{Node}
use Rattle.net_types.specs.declared.network.NodeKind.{NodeKind}
use Rattle.net_types.specs.declared.network.NodeKind.TheVariants.{Junction, Outfall, Storage}
use Rattle.net_types.specs.declared.network.Stage.{Stage}
use Rattle.net_types.specs.declared.network.Stage.TheVariants.{Free, Normal, Fixed, Tidal, Series as SeriesStage}
use Rattle.net_types.specs.declared.network.StoreShape.{StoreShape}
use Rattle.net_types.specs.declared.network.StoreShape.TheVariants.{Tabular, Functional}
use Rattle.net_types.specs.declared.project.Project.{Project}
use Rattle.net_types.specs.declared.rules.Action.{Action}
use Rattle.net_types.specs.declared.rules.Rule.{Rule}
use Rattle.net_types.specs.declared.rules.Subject.{Subject}
use Rattle.net_types.specs.declared.rules.Subject.TheVariants.{NodeDepth, NodeHead, NodeInflow, LinkFlow}
use Rattle.net_types.specs.declared.rules.Subject.TheVariants.{LinkSetting, Elapsed, ClockTime, Month, Weekday}
use Rattle.net_types.specs.declared.rules.Test.{Test}
use Rattle.net_types.specs.declared.tables.Curve.{Curve}
use Rattle.net_types.specs.declared.tables.CurveKind.{CurveKind}
use Rattle.net_types.specs.declared.tables.CurveKind.TheVariants.{Storage as StorageCurve, Pump1, Pump2}
use Rattle.net_types.specs.declared.tables.CurveKind.TheVariants.{Pump3, Pump4, Tidal as TidalCurve}
use Rattle.net_types.specs.Ranges.{OptionsInRange, GageInRange, SubInRange, NodeInRange}
use Rattle.net_types.specs.Ranges.{LinkInRange, CurveInRange, SeriesInRange, PatternInRange}
use Rattle.net_types.specs.Ranges.{InflowInRange, DryFlowInRange, RuleInRange, IsOfKind}
use Rattle.net_types.specs.Records.{curve_at}

-- ---- which objects the numbers of a record name
-- a curve of a type
pub record NamesCurve (curves : List Curve) (curve : ℕ) (kind : CurveKind) : Type 0 where
  pub there : curve < length curves
  pub kind_is : (curve_at curves curve).kind ≡ kind

abbrev pub IsPumpCurve : CurveKind → Type 0
IsPumpCurve StorageCurve = ⊥
IsPumpCurve Pump1 = ⊤
IsPumpCurve Pump2 = ⊤
IsPumpCurve Pump3 = ⊤
IsPumpCurve Pump4 = ⊤
IsPumpCurve TidalCurve = ⊥

pub record NamesPumpCurve (curves : List Curve) (curve : ℕ) : Type 0 where
  pub there : curve < length curves
  pub kind_is : IsPumpCurve (curve_at curves curve).kind

pub record GageNames (project : Project) (gage : Gage) : Type 0 where
  pub series : gage.series < length project.series

-- its infiltration is of the options' kind
pub record SubNames (project : Project) (sub : Sub) : Type 0 where
  pub gage : sub.gage < length project.gages
  pub outlet : sub.outlet < length project.nodes
  pub infil : IfSome sub.infil (IsOfKind project.options.infil)

abbrev pub StageNames : Project → Stage → Type 0
StageNames project Free = ⊤
StageNames project Normal = ⊤
StageNames project (Fixed level) = ⊤
StageNames project (Tidal curve) = NamesCurve project.curves curve TidalCurve
StageNames project (SeriesStage series) = series < length project.series

abbrev pub StoreShapeNames : Project → StoreShape → Type 0
StoreShapeNames project (Tabular curve) = NamesCurve project.curves curve StorageCurve
StoreShapeNames project (Functional a1 halves a0) = ⊤

abbrev pub NodeKindNames : Project → NodeKind → Type 0
NodeKindNames project (Junction surcharge pond) = ⊤
NodeKindNames project (Outfall stage gated) = StageNames project stage
NodeKindNames project (Storage shape) = StoreShapeNames project shape

pub record NodeNames (project : Project) (node : Node) : Type 0 where
  pub kind : NodeKindNames project node.kind

abbrev pub LinkKindNames : Project → LinkKind → Type 0
LinkKindNames project (Conduit long n6 z1 z2 q0 q_max entry6 exit6 avg6 flap) = ⊤
LinkKindNames project (Pump curve on startup shutoff) = NamesPumpCurve project.curves curve
LinkKindNames project (Orifice bottom offset cd6 flap) = ⊤
LinkKindNames project (Weir notch crest cd6 flap contractions) = ⊤

pub record LinkNames (project : Project) (link : Link) : Type 0 where
  pub first : link.first < length project.nodes
  pub second : link.second < length project.nodes
  pub kind : LinkKindNames project link.kind

pub record InflowNames (project : Project) (inflow : Inflow) : Type 0 where
  pub node : inflow.node < length project.nodes
  pub series : IfSome inflow.series (λ series. series < length project.series)
  pub pattern : IfSome inflow.pattern (λ pattern. pattern < length project.patterns)

pub record DryFlowNames (project : Project) (dry : DryFlow) : Type 0 where
  pub node : dry.node < length project.nodes
  pub patterns : All (λ pattern. pattern < length project.patterns) dry.patterns

abbrev pub SubjectNames : Project → Subject → Type 0
SubjectNames project (NodeDepth node) = node < length project.nodes
SubjectNames project (NodeHead node) = node < length project.nodes
SubjectNames project (NodeInflow node) = node < length project.nodes
SubjectNames project (LinkFlow link) = link < length project.links
SubjectNames project (LinkSetting link) = link < length project.links
SubjectNames project Elapsed = ⊤
SubjectNames project ClockTime = ⊤
SubjectNames project Month = ⊤
SubjectNames project Weekday = ⊤

pub record TestNames (project : Project) (test : Test) : Type 0 where
  pub subject : SubjectNames project test.subject

pub record ActionNames (project : Project) (action : Action) : Type 0 where
  pub link : action.link < length project.links

pub record RuleNames (project : Project) (rule : Rule) : Type 0 where
  pub groups : All (λ group. All (TestNames project) group) rule.groups
  pub then_acts : All (ActionNames project) rule.then_acts
  pub else_acts : All (ActionNames project) rule.else_acts

-- ---- the whole
-- at most RECORD_LIMIT records of each kind, and at most 1,000,000 points of curves, entries of series, and tests and
-- actions of rules, each in all
pub record HasFewRecords (project : Project) : Type 0 where
  pub gages : length project.gages ≤ RECORD_LIMIT
  pub subs : length project.subs ≤ RECORD_LIMIT
  pub nodes : length project.nodes ≤ RECORD_LIMIT
  pub links : length project.links ≤ RECORD_LIMIT
  pub curves : length project.curves ≤ RECORD_LIMIT
  pub series : length project.series ≤ RECORD_LIMIT
  pub patterns : length project.patterns ≤ RECORD_LIMIT
  pub inflows : length project.inflows ≤ RECORD_LIMIT
  pub dry : length project.dry ≤ RECORD_LIMIT
  pub rules : length project.rules ≤ RECORD_LIMIT
  pub points : sum_by (λ curve. length curve.points) project.curves ≤ 1_000_000
  pub entries : sum_by (λ series. length series.entries) project.series ≤ 1_000_000
  pub tests :
      sum_by (λ rule. sum_by (λ group. length group) rule.groups + length rule.then_acts + length rule.else_acts)
      project.rules ≤ 1_000_000

-- each record lies in its ranges
pub record RecordsInRange (project : Project) : Type 0 where
  pub gages : All GageInRange project.gages
  pub subs : All SubInRange project.subs
  pub nodes : All NodeInRange project.nodes
  pub links : All LinkInRange project.links
  pub curves : All CurveInRange project.curves
  pub series : All SeriesInRange project.series
  pub patterns : All PatternInRange project.patterns
  pub inflows : All InflowInRange project.inflows
  pub dry : All DryFlowInRange project.dry
  pub rules : All RuleInRange project.rules

-- the numbers of each record name objects of the project
pub record NumbersName (project : Project) : Type 0 where
  pub gages : All (GageNames project) project.gages
  pub subs : All (SubNames project) project.subs
  pub nodes : All (NodeNames project) project.nodes
  pub links : All (LinkNames project) project.links
  pub inflows : All (InflowNames project) project.inflows
  pub dry : All (DryFlowNames project) project.dry
  pub rules : All (RuleNames project) project.rules

pub record IsSound (project : Project) : Type 0 where
  pub options : OptionsInRange project.options
  pub few : HasFewRecords project
  pub ranges : RecordsInRange project
  pub names : NumbersName project
