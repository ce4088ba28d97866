-- What bounds the flow of a conduit's barrel (Reference Manual volume II, chapter 3; User's Manual,
-- NORMAL_FLOW_LIMITED, flap gates and maximum flow). Flows are cm³/s.
use Rattle.std.specs.Prelude.{◌/◌, Bool, ◌&&◌, ◌||◌, if◌then◌else◌, ℤ, pos, ◌-ℤ◌, ◌*ℤ◌, neg_ℤ, unsigned_abs, int_le}
use Rattle.std.specs.Prelude.{int_lt}
use Rattle.std.specs.Int.{int_min}
use Rattle.std.specs.Ordering.{int_eq}
use Rattle.fixed_num.specs.Ranges.{cut_of}
use Rattle.fixed_num.specs.Rounding.{quo_of}
use Rattle.net_types.specs.declared.options.Limiter.{Limiter}
use Rattle.net_types.specs.declared.options.Limiter.TheVariants.{Slope, Froude, Both}
use Rattle.xsect_tables.specs.NormalFlow.{celerity_of, normal_flow_of}
use Rattle.xsect_tables.specs.SectionTable.{SectionTable, full_height}
use Rattle.conduit_flow.specs.declared.conduit.ConduitData.{ConduitData}
use Rattle.conduit_flow.specs.declared.geometry.Ends.{Ends}

-- ---- the normal flow limit
-- the water surface falls less than the conduit
unfoldable pub is_flatter : ConduitData → Ends → Bool
is_flatter conduit ends = int_lt (ends.surface1 -ℤ ends.surface2) (conduit.z1 -ℤ conduit.z2)

-- a flow through an area of a width is at least as fast as a wave there: its Froude number is at least 1
unfoldable pub is_fast : (q area width : ℤ) → Bool
is_fast q area width = int_lt (pos 0) area && int_le (celerity_of area width) (quo_of (q *ℤ pos 1_000_000) area)

-- the signs of supercritical flow that a limiter heeds
unfoldable pub is_heeded : Limiter → (flatter fast : Bool) → Bool
is_heeded Slope flatter fast = flatter
is_heeded Froude flatter fast = fast
is_heeded Both flatter fast = flatter || fast

-- a flow down the conduit, whose upper end is not full, shows a sign of supercritical flow
unfoldable pub is_limited : ConduitData → SectionTable → Ends → ℤ → Bool
is_limited conduit table ends q =
    int_lt (pos 0) q && int_lt ends.depth1 (full_height table)
    && is_heeded conduit.limiter (is_flatter conduit ends) (is_fast q ends.area1 ends.width1)

-- such a flow is at most the normal flow at the upper end
unfoldable pub limited_of : ConduitData → SectionTable → Ends → ℤ → ℤ
limited_of conduit table ends q =
    let normal = normal_flow_of table ends.depth1 conduit.n6 (conduit.z1 -ℤ conduit.z2) conduit.length in
    if is_limited conduit table ends q then int_min q normal else q

-- ---- what bars a flow
-- a flap gate lets nothing run back
unfoldable pub gated_of : Bool → ℤ → ℤ
gated_of flap q = if flap && int_lt q (pos 0) then pos 0 else q

-- nothing flows out of a dry end
unfoldable pub from_dry : Ends → ℤ → Bool
from_dry ends q = (int_lt (pos 0) q && int_eq ends.depth1 (pos 0)) || (int_lt q (pos 0) && int_eq ends.depth2 (pos 0))

unfoldable pub supplied_of : Ends → ℤ → ℤ
supplied_of ends q = if from_dry ends q then pos 0 else q

-- ---- the greatest flow
-- of one barrel: the conduit's own, where it has one, and the barrel's part of 10^12
unfoldable pub greatest_of : (q_max barrels : ℤ) → ℤ
greatest_of q_max barrels =
    let part = pos (1_000_000_000_000 / unsigned_abs barrels) in
    if int_eq q_max (pos 0) then part else int_min q_max part

-- a flow cut to the greatest one, either way
unfoldable pub held_of : (q_max barrels q : ℤ) → ℤ
held_of q_max barrels q = cut_of q (neg_ℤ (greatest_of q_max barrels)) (greatest_of q_max barrels)
