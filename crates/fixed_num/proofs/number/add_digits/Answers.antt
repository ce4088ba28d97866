use Rattle.std.proofs.Common.{◌∙◌, arith}
use Rattle.fixed_num.proofs.NumberLemmas.{add-Step}
use Rattle.fixed_num.proofs.number.add_digits.Goals as goal

pub loop-digit-preserved : goal.loop-digit-preserved
loop-digit-preserved c =
    let step = add-Step c.loop-digit.total c.min-total.result c.loop-digit.digit-index c.args.digits.now c.loop-digit-test.true c.loop-digit.invariant.are_digits c.min-total.ensures in
    record { small = omega arith; are_digits = step.0; same = step.1 ∙ c.loop-digit.invariant.same }
