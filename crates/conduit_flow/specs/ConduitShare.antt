-- What a conduit gives in a trial: its flow, and the water surface that it adds at each end (Reference Manual volume
-- II, chapter 3; the profile of this project).
use Rattle.std.specs.Prelude.{Bool, ◌||◌, if◌then◌else◌, ℤ, pos, ◌*ℤ◌}
use Rattle.std.specs.Ordering.{int_eq}
use Rattle.fixed_num.specs.Relaxation.{relaxed_of}
use Rattle.fixed_num.specs.Rounding.{quo_of}
use Rattle.phase_law.specs.declared.values.LinkFixed.{LinkFixed}
use Rattle.phase_law.specs.declared.values.Share.{Share}
use Rattle.xsect_tables.specs.SectionTable.{SectionTable}
use Rattle.conduit_flow.specs.declared.conduit.ConduitData.{ConduitData}
use Rattle.conduit_flow.specs.declared.geometry.Ends.{Ends}
use Rattle.conduit_flow.specs.declared.geometry.Middle.{Middle}
use Rattle.conduit_flow.specs.Geometry.{mean_depth_of, ends_of, middle_of, end_area_of}
use Rattle.conduit_flow.specs.Momentum.{momentum_flow_of}
use Rattle.conduit_flow.specs.TravelTime.{travel_time_of}
use Rattle.conduit_flow.specs.Limits.{limited_of, gated_of, supplied_of, held_of}

-- the flow of one barrel, from its flow at the step's start and its flow in the last trial: what the momentum
-- equation gives, held to the normal flow, relaxed, barred by a flap gate and by a dry end, and cut to the greatest
-- flow
unfoldable pub barrel_flow_of : ConduitData → SectionTable → LinkFixed → Ends → Middle → (first : Bool)
    → (old last : ℤ) → ℤ
barrel_flow_of conduit table fixed ends middle first old last =
    let driven = momentum_flow_of conduit fixed ends middle old last in
    let relaxed = relaxed_of first last (limited_of conduit table ends driven) in
    held_of conduit.q_max table.barrels (supplied_of ends (gated_of conduit.flap relaxed))

-- the part of a flow that one barrel carries
unfoldable pub barrel_part_of : (flow barrels : ℤ) → ℤ
barrel_part_of flow barrels = quo_of flow barrels

-- a conduit that gives nothing and bounds no step
abbrev pub no_share : Share
no_share = record { q = pos 0; area1 = pos 0; area2 = pos 0; time = pos 3_600_000 }

-- the share of a conduit in whose middle there is water to flow
unfoldable pub wet_share_of : ConduitData → SectionTable → LinkFixed → Ends → Middle → (first : Bool)
    → (last : ℤ) → Share
wet_share_of conduit table fixed ends middle first last =
    let old_part = barrel_part_of fixed.q_old table.barrels in
    let last_part = barrel_part_of last table.barrels in
    let one = barrel_flow_of conduit table fixed ends middle first old_part last_part in
    record {
      q = table.barrels *ℤ one;
      area1 = end_area_of ends.width1 middle.width conduit.length table.barrels;
      area2 = end_area_of ends.width2 middle.width conduit.length table.barrels;
      time = travel_time_of one middle conduit.length;
    }

-- there is no water to flow in the middle
unfoldable pub is_dry : Middle → Bool
is_dry middle = int_eq middle.area (pos 0) || int_eq middle.radius (pos 0)

-- the share of a conduit with water in the middle, and none of a dry one
unfoldable pub open_share_of : ConduitData → SectionTable → LinkFixed → Ends → Middle → (first : Bool)
    → (last : ℤ) → Share
open_share_of conduit table fixed ends middle first last =
    if is_dry middle then no_share else wet_share_of conduit table fixed ends middle first last

-- the share of a conduit: none while it is shut
unfoldable pub share_of : ConduitData → SectionTable → LinkFixed → (first : Bool) → (near far last : ℤ) → Share
share_of conduit table fixed first near far last =
    if int_eq fixed.setting (pos 0) then no_share
    else
    let middle = middle_of table (mean_depth_of conduit near far) in
    open_share_of conduit table fixed (ends_of conduit table near far) middle first last
