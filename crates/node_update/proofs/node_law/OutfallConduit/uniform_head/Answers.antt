use Rattle.std.proofs.Common.{◌≡◌}
use Rattle.std.proofs.lemmas.Int.{to_z-of_z}
use Rattle.fixed_num.proofs.Bounds.{within_add, within_between, fits64}
use Rattle.node_update.specs.NodeUpdate.{uniform_head_of}
use Rattle.node_update.proofs.node_law.OutfallConduit.uniform_head.Goals as goal

pub returns-clause-value : goal.returns-clause-value
unfolding uniform_head_of
returns-clause-value c =
    let part = within_between c.normal_depth.ensures.range in
    let normal = simp (to_z-of_z, c.ranges.q) at c.normal_depth.ensures.value in
    simp (to_z-of_z, fits64 c.requires.height tt, fits64 part tt, fits64 (within_add c.requires.height part) tt) (cc (normal))
