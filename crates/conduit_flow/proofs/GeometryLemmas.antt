-- The ranges of the water in a conduit, from the ranges of the heads at its ends.
use Rattle.std.proofs.Common.{◌*◌, ◌^◌, ℤ, pos, ◌-ℤ◌, ◌≤ℤ◌, arith}
use Rattle.std.specs.Int.{int_max}
use Rattle.std.proofs.lemmas.Int.{ints, clamps}
use Rattle.fixed_num.specs.Ranges.{IsBetween, IsHead, IsWaterDepth}
use Rattle.xsect_tables.specs.SectionTable.{SectionTable}
use Rattle.conduit_flow.specs.declared.conduit.ConduitData.{ConduitData}
use Rattle.conduit_flow.specs.Conduits.{IsConduit, IsConduitTable}
use Rattle.conduit_flow.specs.Geometry.{IsFlowArea, surface_of, depth_of, mean_depth_of, mid_area_of, volume_of}
use Rattle.conduit_flow.proofs.RangeLemmas.{flow_area-between, mean-between, prism-between}

pub depth_of-between : {head invert : ℤ} → IsHead head → IsHead invert → IsWaterDepth (depth_of head invert)
unfolding depth_of surface_of
depth_of-between h i = record { from = omega (arith, ints, clamps); to = omega (arith, ints, clamps, h.within, i.within) }

pub mean_depth_of-between : {conduit : ConduitData} {near far : ℤ} → IsConduit conduit → IsHead near → IsHead far → IsWaterDepth (mean_depth_of conduit near far)
unfolding mean_depth_of
mean_depth_of-between c n f = mean-between (depth_of-between n c.z1) (depth_of-between f c.z2)

pub mid_area_of-between : {conduit : ConduitData} {table : SectionTable} {near far : ℤ} → IsConduit conduit → IsConduitTable table → IsHead near → IsHead far
    → IsFlowArea (mid_area_of conduit table near far)
unfolding mid_area_of
mid_area_of-between c t n f = flow_area-between t (mean_depth_of-between c n f)

pub volume_of-between : {conduit : ConduitData} {table : SectionTable} {near far : ℤ} → IsConduit conduit → IsConduitTable table → IsHead near → IsHead far
    → IsBetween (pos 0) (volume_of conduit table near far) (pos (10 ^ 22))
unfolding volume_of
volume_of-between c t n f = prism-between (mid_area_of-between c t n f) c.length t.rows.barrels
