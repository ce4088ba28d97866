use Rattle.std.proofs.Common.{◌∙◌, ap, int_le}
use Rattle.std.proofs.lemmas.Int.{to_z-of_z}
use Rattle.fixed_num.specs.Roots.{root2_of}
use Rattle.fixed_num.proofs.Bounds.{within_between, between_up, fits128}
use Rattle.xsect_tables.specs.NormalFlow.{celerity_of}
use Rattle.xsect_tables.proofs.flow.reaches_celerity.Goals as goal

pub reaches_root-requires : goal.reaches_root-requires
reaches_root-requires c =
    let range = c.energy.ensures.range in
    simp (to_z-of_z, fits128 (within_between range) tt) (between_up range tt tt)

pub returns : goal.returns
unfolding celerity_of
returns c =
    let range = c.energy.ensures.range in
    let e = simp (to_z-of_z, c.ranges.area, c.ranges.width) at c.energy.ensures.value in
    let reached = simp (to_z-of_z, c.ranges.speed, fits128 (within_between range) tt) at c.reaches_root.ensures in
    reached ∙ ap (λ z. int_le (root2_of z) c.args.speed) e
