use Rattle.std.proofs.Common.{◌≡◌, ◌*◌, ◌^◌, pos}
use Rattle.std.specs.Int.{int_min}
use Rattle.std.proofs.lemmas.Int.{to_z-of_z}
use Rattle.fixed_num.specs.Ranges.{IsDepth}
use Rattle.fixed_num.proofs.Bounds.{between_min, within_add, within_between, within_up, fits64}
use Rattle.node_update.specs.NodeUpdate.{free_head_of}
use Rattle.node_update.proofs.node_law.OutfallConduit.free_head.Goals as goal
use Rattle.node_update.proofs.node_law.OutfallConduit.free_head.Goals.{After-min}

least : (c : After-min) → c.min.result ≡ int_min c.critical_depth.result c.normal_depth.result
least c =
    simp (to_z-of_z, fits64 (within_between c.critical_depth.ensures.range) tt, fits64 (within_between c.normal_depth.ensures.range) tt) at c.min.ensures.value

depth : (c : After-min) → IsDepth c.min.result
depth c = rw (least c) (between_min c.critical_depth.ensures.range c.normal_depth.ensures.range)

pub returns-clause-value : goal.returns-clause-value
unfolding free_head_of
returns-clause-value c =
    let d = (goal.at.returns-clause-value c).After-min in
    let part = within_between (depth d) in
    let critical = simp (to_z-of_z, c.ranges.q) at c.critical_depth.ensures.value in
    let normal = simp (to_z-of_z, c.ranges.q) at c.normal_depth.ensures.value in
    simp (to_z-of_z, fits64 c.requires.height tt, fits64 part tt, fits64 (within_add c.requires.height part) tt) (cc (least d, critical, normal))

pub returns-clause-range : goal.returns-clause-range
returns-clause-range c =
    let part = within_between (depth (goal.at.returns-clause-range c).After-min) in
    let sum = within_add c.requires.height part in
    simp (to_z-of_z, fits64 c.requires.height tt, fits64 part tt, fits64 sum tt) (within_up sum tt)
