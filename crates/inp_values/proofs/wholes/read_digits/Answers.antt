use Rattle.std.proofs.Common.{arith, ◌∙◌, refl}
use Rattle.inp_values.proofs.FieldLemmas.{nine_fit, digit_Step, more_small}
use Rattle.inp_values.proofs.wholes.read_digits.Goals as goal

pub overflow_mul-total : goal.overflow_mul-total
overflow_mul-total c =
    let small = nine_fit c.loop-digit.total c.loop-digit.digit-index c.loop-digit.invariant.small (omega arith) in
    omega arith

pub overflow_add-total : goal.overflow_add-total
overflow_add-total c =
    let small = nine_fit c.loop-digit.total c.loop-digit.digit-index c.loop-digit.invariant.small (omega arith) in
    let step = digit_Step c.loop-digit.total _ c.loop-digit.digit-index c.args.digits.now c.loop-digit-test.true c.loop-digit.invariant.are_digits refl in
    omega (arith, step.2)

pub loop-digit-preserved : goal.loop-digit-preserved
loop-digit-preserved c =
    let step = digit_Step c.loop-digit.total _ c.loop-digit.digit-index c.args.digits.now c.loop-digit-test.true c.loop-digit.invariant.are_digits refl in
    record {
      small = more_small c.loop-digit.total _ _ c.loop-digit.digit-index c.loop-digit.invariant.small step.2 refl;
      are_digits = step.0;
      same = step.1 ∙ c.loop-digit.invariant.same;
    }
