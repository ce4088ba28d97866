use Rattle.std.proofs.Common.{◌∙◌, sym, arith}
use Rattle.std.specs.Int.{w128}
use Rattle.std.proofs.lemmas.Int.{ints, to_z-of_z}
use Rattle.fixed_num.proofs.Between.{cut_of-least, cut_of-most, cut_of-same}
use Rattle.fixed_num.proofs.ranges.cut.Goals as goal

pub returns-then-v-least-clause-value : goal.returns-then-v-least-clause-value
returns-then-v-least-clause-value c =
    to_z-of_z w128 c.args.least c.ranges.least ∙ sym (cut_of-least c.args.v c.args.least c.args.most (omega (arith, ints)) c.requires)

pub returns-then-v-most-clause-value : goal.returns-then-v-most-clause-value
returns-then-v-most-clause-value c =
    to_z-of_z w128 c.args.most c.ranges.most ∙ sym (cut_of-most c.args.v c.args.least c.args.most (omega (arith, ints)) c.requires)

pub returns-clause-value : goal.returns-clause-value
returns-clause-value c =
    to_z-of_z w128 c.args.v c.ranges.v
    ∙ sym (cut_of-same c.args.v c.args.least c.args.most (record { from = omega (arith, ints); to = omega (arith, ints) }))
