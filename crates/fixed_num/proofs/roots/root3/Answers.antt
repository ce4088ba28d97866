use Rattle.std.proofs.Common.{◌∙◌, arith}
use Rattle.std.specs.Int.{w128}
use Rattle.std.proofs.lemmas.Int.{ints, to_z-of_z, to_z_pos}
use Rattle.fixed_num.proofs.RootLemmas.{root3_of-abs}
use Rattle.fixed_num.proofs.roots.root3.Goals as goal

pub returns-then-cube-clause-value : goal.returns-then-cube-clause-value
returns-then-cube-clause-value c =
    let size = simp (to_z-of_z, c.ranges.a) at c.unsigned_abs-cube.ensures.value in
    to_z_pos w128 c.root3_short.result (omega (arith, ints, c.root3_short.ensures.small))
    ∙ root3_of-abs c.args.a c.unsigned_abs-cube.result c.root3_short.result c.requires size c.root3_short.ensures.at_most c.root3_short.ensures.below_next

pub returns-else-cube-clause-value : goal.returns-else-cube-clause-value
returns-else-cube-clause-value c =
    let size = simp (to_z-of_z, c.ranges.a) at c.unsigned_abs-cube.ensures.value in
    to_z_pos w128 c.root3_long.result (omega (arith, ints, c.root3_long.ensures.small))
    ∙ root3_of-abs c.args.a c.unsigned_abs-cube.result c.root3_long.result c.requires size c.root3_long.ensures.at_most c.root3_long.ensures.below_next
