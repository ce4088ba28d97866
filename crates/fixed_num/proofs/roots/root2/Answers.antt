use Rattle.std.proofs.Common.{◌∙◌, arith}
use Rattle.std.specs.Int.{w128}
use Rattle.std.proofs.lemmas.Int.{ints, to_z-of_z, to_z_pos}
use Rattle.fixed_num.proofs.RootLemmas.{root2_of-abs}
use Rattle.fixed_num.proofs.roots.root2.Goals as goal

pub returns-then-square-clause-value : goal.returns-then-square-clause-value
returns-then-square-clause-value c =
    let size = simp (to_z-of_z, c.ranges.a) at c.unsigned_abs-square.ensures.value in
    to_z_pos w128 c.root2_short.result (omega (arith, ints, c.root2_short.ensures.small))
    ∙ root2_of-abs c.args.a c.unsigned_abs-square.result c.root2_short.result c.requires size c.root2_short.ensures.at_most c.root2_short.ensures.below_next

pub returns-else-square-clause-value : goal.returns-else-square-clause-value
returns-else-square-clause-value c =
    let size = simp (to_z-of_z, c.ranges.a) at c.unsigned_abs-square.ensures.value in
    to_z_pos w128 c.root2_long.result (omega (arith, ints, c.root2_long.ensures.small))
    ∙ root2_of-abs c.args.a c.unsigned_abs-square.result c.root2_long.result c.requires size c.root2_long.ensures.at_most c.root2_long.ensures.below_next
