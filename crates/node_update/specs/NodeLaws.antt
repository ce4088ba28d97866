-- What a node's next head depends on: the law of a node, from its project (Reference Manual volume II, chapter 3).
use Rattle.std.specs.Prelude.{ℕ, ◌*◌, ◌^◌, Bool, true, false, if◌then◌else◌, Option, Some, None, ℤ, pos, ◌+ℤ◌, int_lt}
use Rattle.std.specs.Bool.{⊤}
use Rattle.fixed_num.specs.Ranges.{IsBetween, IsConduitLength, IsDepth, IsElevation, IsFall, IsLeastArea, IsNodeArea}
use Rattle.fixed_num.specs.Ranges.{IsRoughness, IsWithin}
use Rattle.inp_values.specs.Units.{unit_for}
use Rattle.inp_values.specs.declared.quantities.Quantity.TheVariants.{Depth, NodeArea}
use Rattle.net_types.specs.declared.network.NodeKind.{NodeKind}
use Rattle.net_types.specs.declared.network.NodeKind.TheVariants.{Junction, Outfall, Storage}
use Rattle.net_types.specs.declared.network.Stage.{Stage}
use Rattle.net_types.specs.declared.network.Stage.TheVariants.{Free, Normal, Fixed, Tidal, Series}
use Rattle.net_types.specs.declared.options.FlowUnits.{FlowUnits}
use Rattle.net_types.specs.declared.options.Options.{Options}
use Rattle.net_types.specs.declared.project.Project.{Project}
use Rattle.net_types.specs.Records.{node_at}
use Rattle.project_check.specs.FullHeight.{full_height_of}
use Rattle.storage_shapes.specs.ShapeArea.{shape_area_of}
use Rattle.storage_shapes.specs.StoreTable.{IsStoreTable, table_of}
use Rattle.storage_shapes.specs.declared.shapes.StoreUnits.{StoreUnits}
use Rattle.xsect_tables.specs.SectionTable.{IsTable}
use Rattle.node_update.specs.OutfallConduits.{conduit_to}
use Rattle.node_update.specs.declared.node_law.NodeLaw.{NodeLaw as Law}
use Rattle.node_update.specs.declared.node_law.NodeRule.{NodeRule as Rule}
use Rattle.node_update.specs.declared.node_law.NodeRule.TheVariants.{Junction as JunctionRule, Outfall as OutfallRule}
use Rattle.node_update.specs.declared.node_law.NodeRule.TheVariants.{Storage as StorageRule}
use Rattle.node_update.specs.declared.node_law.OutfallConduit.{OutfallConduit}
use Rattle.node_update.specs.declared.node_law.OutfallLevel.{OutfallLevel}
use Rattle.node_update.specs.declared.node_law.OutfallLevel.TheVariants.{AtStage, AtInvert, FreeFall, UniformFlow}

-- ---- the rule of a node
abbrev pub is_outfall_rule : Rule → Bool
is_outfall_rule (JunctionRule pond) = false
is_outfall_rule (StorageRule table) = false
is_outfall_rule (OutfallRule level) = true

-- the area over which a junction ponds: its ponded area where the options let water pond, and 0 where they don't
abbrev pub ponded_area_of : Options → (pond : ℤ) → ℤ
ponded_area_of options pond = if options.ponding then pond else pos 0

-- the units of depths and surface areas of storages
abbrev pub store_units_of : FlowUnits → StoreUnits
store_units_of units = record { depth = unit_for units Depth; area = unit_for units NodeArea }

-- the level of a free and of a normal outfall, by the conduit that ends there
abbrev pub free_level : Option OutfallConduit → OutfallLevel
free_level (Some conduit) = FreeFall conduit
free_level None = AtInvert

abbrev pub normal_level : Option OutfallConduit → OutfallLevel
normal_level (Some conduit) = UniformFlow conduit
normal_level None = AtInvert

abbrev pub level_of : Stage → Option OutfallConduit → OutfallLevel
level_of Free conduit = free_level conduit
level_of Normal conduit = normal_level conduit
level_of (Fixed level) conduit = AtStage
level_of (Tidal curve) conduit = AtStage
level_of (Series series) conduit = AtStage

-- the rule of a node of a kind and a greatest depth, at which this conduit ends
abbrev pub rule_of : Project → NodeKind → (y_max : ℤ) → Option OutfallConduit → Rule
rule_of project (Junction surcharge pond) y_max conduit = JunctionRule (ponded_area_of project.options pond)
rule_of project (Outfall stage gated) y_max conduit = OutfallRule (level_of stage conduit)
rule_of project (Storage shape) y_max conduit =
    StorageRule (table_of (shape_area_of project.curves (store_units_of project.options.units) shape) y_max)

-- ---- the whole law
-- how far above its full height a node's head may go, in µm: a junction's as far as its surcharge depth, and 10^9 µm
-- where it ponds
abbrev pub junction_room : (surcharge pond : ℤ) → ℤ
junction_room surcharge pond = if int_lt (pos 0) pond then pos 1_000_000_000 else surcharge

abbrev pub room_of : NodeKind → Options → ℤ
room_of (Junction surcharge pond) options = junction_room surcharge (ponded_area_of options pond)
room_of (Outfall stage gated) options = pos 0
room_of (Storage shape) options = pos 0

abbrev pub law_with : Rule → (invert full room : ℤ) → Options → Law
law_with rule invert full room options = record {
  rule = rule;
  invert = invert;
  full = full;
  top = invert +ℤ full +ℤ room;
  min_area = options.min_area;
  tolerance = options.tolerance;
}

-- the law of a node of a project, by its number
unfoldable pub node_law_of : Project → ℕ → Law
node_law_of project k =
    let node = node_at project.nodes k in
    law_with (rule_of project node.kind node.y_max (conduit_to project k))
    node.invert (full_height_of project k) (room_of node.kind project.options) project.options

-- ---- its ranges (this project's profile)
-- an end within 12·10^9 µm, and a roughness, a drop and a length of a conduit
pub record IsOutfallConduit (conduit : OutfallConduit) : Type 0 where
  pub table : IsTable conduit.table
  pub height : IsWithin (12 * 10 ^ 9) conduit.height
  pub roughness : IsRoughness conduit.n6
  pub drop : IsFall conduit.drop
  pub length : IsConduitLength conduit.length

abbrev pub IsOutfallLevel : OutfallLevel → Type 0
IsOutfallLevel AtStage = ⊤
IsOutfallLevel AtInvert = ⊤
IsOutfallLevel (FreeFall conduit) = IsOutfallConduit conduit
IsOutfallLevel (UniformFlow conduit) = IsOutfallConduit conduit

abbrev pub IsNodeRule : Rule → Type 0
IsNodeRule (JunctionRule pond) = IsNodeArea pond
IsNodeRule (StorageRule table) = IsStoreTable table
IsNodeRule (OutfallRule level) = IsOutfallLevel level

-- an invert within 10^10 µm, a full height of 0 to 2·10^9 µm, a top 0 to 3·10^9 µm above the invert, a least area of
-- 10^4 to 10^13 mm² and a tolerance of 0 to 10^9 µm
pub record IsNodeLaw (law : Law) : Type 0 where
  pub rule_in : IsNodeRule law.rule
  pub invert_in : IsElevation law.invert
  pub full_in : IsBetween (pos 0) law.full (pos (2 * 10 ^ 9))
  pub top_in : IsBetween law.invert law.top (law.invert +ℤ pos (3 * 10 ^ 9))
  pub area_in : IsLeastArea law.min_area
  pub tolerance_in : IsDepth law.tolerance
