use Rattle.std.proofs.Common.{◌≡◌}
use Rattle.std.proofs.lemmas.Int.{to_z-of_z}
use Rattle.fixed_num.specs.Ranges.{IsDepth}
use Rattle.fixed_num.proofs.Bounds.{within_between, fits64}
use Rattle.node_update.specs.NodeUpdate.{normal_depth_of}
use Rattle.node_update.proofs.DepthLemmas.{normal-depth}
use Rattle.node_update.proofs.node_law.OutfallConduit.normal_depth.Goals as goal

pub returns-clause-value : goal.returns-clause-value
unfolding normal_depth_of
returns-clause-value c =
    let self = c.args.self.now in
    let roughness = fits64 (within_between c.requires.roughness) tt in
    let drop = fits64 c.requires.drop tt in
    let length = fits64 (within_between c.requires.length) tt in
    let value = simp (to_z-of_z, c.ranges.q, roughness, drop, length) at c.normal.ensures.value in
    let range : IsDepth c.normal.result = rw value (normal-depth c.args.q self.n6 self.drop self.length c.requires.table) in
    simp (to_z-of_z, fits64 (within_between range) tt) value
