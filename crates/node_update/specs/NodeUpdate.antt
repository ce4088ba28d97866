-- The next head of a node, its flood and its volume (Reference Manual volume II, chapter 3, in whole numbers by this
-- project's profile).
use Rattle.std.specs.Prelude.{◌*◌, ◌^◌, Bool, true, ◌&&◌, if◌then◌else◌, ℤ, pos}
use Rattle.std.specs.Prelude.{◌+ℤ◌, ◌-ℤ◌, ◌*ℤ◌, int_le, int_lt, int_div}
use Rattle.std.specs.Int.{int_max, int_min}
use Rattle.std.specs.Int.RustNames.{unsigned_abs}
use Rattle.fixed_num.specs.Ranges.{IsWithin, cut_of, IsFlow, IsStepLength, IsHead}
use Rattle.fixed_num.specs.Relaxation.{relaxed_of}
use Rattle.fixed_num.specs.Rounding.{quo_of}
use Rattle.phase_law.specs.declared.values.NodeFixed.{NodeFixed}
use Rattle.phase_law.specs.declared.values.NodeNext.{NodeNext}
use Rattle.storage_shapes.specs.StoreTable.{prism_of, stored_area_of, stored_volume_of}
use Rattle.storage_shapes.specs.declared.table.StoreTable.{StoreTable}
use Rattle.xsect_tables.specs.NormalFlow.{critical_of, normal_of}
use Rattle.node_update.specs.declared.node_law.NodeLaw.{NodeLaw as Law}
use Rattle.node_update.specs.declared.node_law.NodeRule.{NodeRule as Rule}
use Rattle.node_update.specs.declared.node_law.NodeRule.TheVariants.{Junction as JunctionRule, Outfall as OutfallRule}
use Rattle.node_update.specs.declared.node_law.NodeRule.TheVariants.{Storage as StorageRule}
use Rattle.node_update.specs.declared.node_law.OutfallConduit.{OutfallConduit}
use Rattle.node_update.specs.declared.node_law.OutfallLevel.{OutfallLevel}
use Rattle.node_update.specs.declared.node_law.OutfallLevel.TheVariants.{AtStage, AtInvert, FreeFall, UniformFlow}

-- what stays the same for a node over a step, in range, where heads and stages are within 2·10^10 µm
pub record IsNodeFixed (fixed : NodeFixed) : Type 0 where
  pub head : IsHead fixed.h_old
  pub net : IsWithin (3 * 10 ^ 16) fixed.net_old
  pub lateral : IsFlow fixed.lateral
  pub stage : IsHead fixed.stage
  pub length : IsStepLength fixed.dt

-- ---- what comes in
-- the net inflow at the end of a step, in cm³/s
unfoldable pub net_of : NodeFixed → (inflow outflow : ℤ) → ℤ
net_of fixed inflow outflow = fixed.lateral +ℤ inflow -ℤ outflow

-- the water that comes in over a step, in mm³: half its length by the net inflows at its two ends
unfoldable pub gain_of : NodeFixed → (inflow outflow : ℤ) → ℤ
gain_of fixed inflow outflow = int_div fixed.dt (pos 2) *ℤ (fixed.net_old +ℤ net_of fixed inflow outflow)

-- ---- the surface over which it spreads, in mm²
-- the head at which a node is full, in µm
abbrev pub full_level_of : Law → ℤ
full_level_of law = law.invert +ℤ law.full

-- a junction's own area is the least one, and its ponded area where it has one and the last head is not below full
unfoldable pub junction_area_of : Law → (pond last : ℤ) → ℤ
junction_area_of law pond last =
    if int_lt (pos 0) pond && int_le (full_level_of law) last then pond else law.min_area

-- a storage's is that of its table at the last head, and at least the least one
unfoldable pub storage_area_of : Law → StoreTable → (last : ℤ) → ℤ
storage_area_of law table last = int_max law.min_area (stored_area_of table (last -ℤ law.invert))

-- the own area of a node; an outfall needs none
abbrev pub own_area_of : Rule → Law → (last : ℤ) → ℤ
own_area_of (JunctionRule pond) law last = junction_area_of law pond last
own_area_of (StorageRule table) law last = storage_area_of law table last
own_area_of (OutfallRule level) law last = law.min_area

-- the node's own area and what its links add
unfoldable pub surface_of : Law → (area last : ℤ) → ℤ
surface_of law area last = own_area_of law.rule law last +ℤ area

-- ---- a junction or a storage in a trial
-- the head, in µm, to which the gain would raise the node if that had no top
unfoldable pub raised_of : Law → NodeFixed → (inflow outflow area last : ℤ) → ℤ
raised_of law fixed inflow outflow area last =
    fixed.h_old +ℤ quo_of (gain_of fixed inflow outflow *ℤ pos 1_000) (surface_of law area last)

-- the next head: the raised head held between invert and top, then relaxed
unfoldable pub filled_head_of : Law → NodeFixed → Bool → (inflow outflow area last : ℤ) → ℤ
filled_head_of law fixed first inflow outflow area last =
    relaxed_of first last (cut_of (raised_of law fixed inflow outflow area last) law.invert law.top)

-- a head has settled where it moved no further than the tolerance
abbrev pub has_settled : (tolerance last new : ℤ) → Bool
has_settled tolerance last new = int_le (pos (unsigned_abs (new -ℤ last))) tolerance

abbrev pub filled_next_of : Law → NodeFixed → Bool → (inflow outflow area last : ℤ) → NodeNext
filled_next_of law fixed first inflow outflow area last =
    let head = filled_head_of law fixed first inflow outflow area last in
    record { head = head; settled = has_settled law.tolerance last head }

-- ---- an outfall in a trial
-- what one barrel of a conduit brings to an outfall, in cm³/s, and 0 where more goes out than comes in
unfoldable pub barrel_flow_of : OutfallConduit → (inflow outflow : ℤ) → ℤ
barrel_flow_of conduit inflow outflow = quo_of (int_max (inflow -ℤ outflow) (pos 0)) conduit.table.barrels

unfoldable pub normal_depth_of : OutfallConduit → (q : ℤ) → ℤ
normal_depth_of conduit q = normal_of conduit.table q conduit.n6 conduit.drop conduit.length

-- the head at the end of a conduit in free fall: at the critical or at the normal depth, whichever is less
unfoldable pub free_head_of : OutfallConduit → (q : ℤ) → ℤ
free_head_of conduit q = conduit.height +ℤ int_min (critical_of conduit.table q) (normal_depth_of conduit q)

-- and in uniform flow: at the normal depth
unfoldable pub uniform_head_of : OutfallConduit → (q : ℤ) → ℤ
uniform_head_of conduit q = conduit.height +ℤ normal_depth_of conduit q

-- the head at an outfall: its stage where that is above the invert; or that at the end of its conduit; or its invert
abbrev pub level_head_of : OutfallLevel → (invert stage inflow outflow : ℤ) → ℤ
level_head_of AtStage invert stage inflow outflow = int_max invert stage
level_head_of AtInvert invert stage inflow outflow = invert
level_head_of (FreeFall conduit) invert stage inflow outflow =
    free_head_of conduit (barrel_flow_of conduit inflow outflow)
level_head_of (UniformFlow conduit) invert stage inflow outflow =
    uniform_head_of conduit (barrel_flow_of conduit inflow outflow)

-- an outfall is always settled
abbrev pub outfall_next_of : OutfallLevel → Law → NodeFixed → (inflow outflow : ℤ) → NodeNext
outfall_next_of level law fixed inflow outflow =
    record { head = level_head_of level law.invert fixed.stage inflow outflow; settled = true }

-- ---- the next head of a node
abbrev pub rule_next : Rule → Law → NodeFixed → Bool → (inflow outflow area last : ℤ) → NodeNext
rule_next (JunctionRule pond) law fixed first inflow outflow area last =
    filled_next_of law fixed first inflow outflow area last
rule_next (StorageRule table) law fixed first inflow outflow area last =
    filled_next_of law fixed first inflow outflow area last
rule_next (OutfallRule level) law fixed first inflow outflow area last =
    outfall_next_of level law fixed inflow outflow

unfoldable pub next_of : Law → NodeFixed → Bool → (inflow outflow area last : ℤ) → NodeNext
next_of law fixed first inflow outflow area last = rule_next law.rule law fixed first inflow outflow area last

-- ---- the flood of a step, in mm³, from the numbers of its last trial
-- what does not fit below the top: the gain less what fills the room up to the top
unfoldable pub excess_of : Law → NodeFixed → (inflow outflow area last : ℤ) → ℤ
excess_of law fixed inflow outflow area last =
    gain_of fixed inflow outflow -ℤ quo_of (surface_of law area last *ℤ (law.top -ℤ fixed.h_old)) (pos 1_000)

-- that excess where the raised head is above the top, and never less than 0
unfoldable pub overflow_of : Law → NodeFixed → (inflow outflow area last : ℤ) → ℤ
overflow_of law fixed inflow outflow area last =
    if int_lt law.top (raised_of law fixed inflow outflow area last)
    then int_max (excess_of law fixed inflow outflow area last) (pos 0) else pos 0

-- an outfall has none
abbrev pub rule_flood : Rule → Law → NodeFixed → (inflow outflow area last : ℤ) → ℤ
rule_flood (JunctionRule pond) law fixed inflow outflow area last = overflow_of law fixed inflow outflow area last
rule_flood (StorageRule table) law fixed inflow outflow area last = overflow_of law fixed inflow outflow area last
rule_flood (OutfallRule level) law fixed inflow outflow area last = pos 0

unfoldable pub flood_of : Law → NodeFixed → (inflow outflow area last : ℤ) → ℤ
flood_of law fixed inflow outflow area last = rule_flood law.rule law fixed inflow outflow area last

-- ---- the volume at a head, in mm³
-- over a junction's invert its least area by the depth; where it ponds, by its full height, and above that the ponded
-- area by the rest of the depth
unfoldable pub junction_volume_of : Law → (pond head : ℤ) → ℤ
junction_volume_of law pond head =
    if int_lt (pos 0) pond && int_lt (full_level_of law) head
    then prism_of law.min_area law.full +ℤ prism_of pond (head -ℤ full_level_of law)
    else prism_of law.min_area (head -ℤ law.invert)

-- that of a storage's table; an outfall has none
abbrev pub rule_volume : Rule → Law → (head : ℤ) → ℤ
rule_volume (JunctionRule pond) law head = junction_volume_of law pond head
rule_volume (StorageRule table) law head = stored_volume_of table (head -ℤ law.invert)
rule_volume (OutfallRule level) law head = pos 0

unfoldable pub volume_of : Law → (head : ℤ) → ℤ
volume_of law head = rule_volume law.rule law head
