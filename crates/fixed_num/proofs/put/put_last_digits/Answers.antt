use Rattle.std.proofs.Common.{◌+◌, ◌-◌, ◌/◌, ◌%◌, ◌++◌, take, arith}
use Rattle.fixed_num.specs.Decimal.{last_digits}
use Rattle.fixed_num.proofs.DecimalLemmas.{power-positive}
use Rattle.fixed_num.proofs.PutLemmas.{digit_text, digit_rest}
use Rattle.fixed_num.proofs.put.put_last_digits.Goals as goal

pub nonzero_div-to : goal.nonzero_div-to
nonzero_div-to c = omega (arith, power-positive (c.loop-left.left - 1))

pub loop-left-preserved : goal.loop-left-preserved
loop-left-preserved c =
    let l = c.loop-left in
    let keeps = c.loop-left.invariant in
    record {
      few = omega arith;
      place = omega arith;
      text = digit_text l.to (take c.args.at c.args.to.now ++ last_digits c.args.count c.args.number) c.args.number l.left l.end c.pow.result c.loop-left-test.true (omega arith) c.pow.ensures keeps.text;
      rest = digit_rest l.to c.args.to.now l.end (c.args.at + c.args.count) (48 + c.args.number / c.pow.result % 10) (omega arith) keeps.rest;
    }
