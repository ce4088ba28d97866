use Rattle.std.proofs.Common.{◌≡◌, ℤ, pos, ◌-ℤ◌, arith, sym, ap, ◌∙◌, length, min, ◌++◌, ◌^◌, Option, Some, to_z, of_z}
use Rattle.std.specs.Int.{w32}
use Rattle.std.proofs.lemmas.Int.{ints}
use Rattle.fixed_num.specs.declared.number.Number.{Number}
use Rattle.fixed_num.specs.Number.{digits_after}
use Rattle.fixed_num.proofs.NumberLemmas.{added, joined-no_digit, joined-long, joined-large, joined-whole}
use Rattle.fixed_num.proofs.number.join.Goals as goal
use Rattle.fixed_num.proofs.number.join.Goals.{After-add_digits-digits}

all_digits : (c : After-add_digits-digits) → c.add_digits-digits.result ≡ min (digits_after 0 (c.args.whole.now ++ c.args.fraction.now)) (10 ^ 18)
all_digits c = added c.args.whole.now c.args.fraction.now c.add_digits.result c.add_digits-digits.result c.add_digits.ensures c.add_digits-digits.ensures

pub returns-then-whole-fraction-eq0 : goal.returns-then-whole-fraction-eq0
returns-then-whole-fraction-eq0 c = sym (joined-no_digit c.args.negative c.args.whole.now c.args.fraction.now c.args.power (omega arith))

pub returns-then-fraction-gt-MOST_PLACES : goal.returns-then-fraction-gt-MOST_PLACES
returns-then-fraction-gt-MOST_PLACES c = sym (joined-long c.args.negative c.args.whole.now c.args.fraction.now c.args.power (omega arith))

pub returns-then-digits-ge-DIGITS_LIMIT : goal.returns-then-digits-ge-DIGITS_LIMIT
returns-then-digits-ge-DIGITS_LIMIT c =
    let e = all_digits (goal.at.returns-then-digits-ge-DIGITS_LIMIT c).After-add_digits-digits in
    sym (joined-large c.args.negative c.args.whole.now c.args.fraction.now c.args.power c.add_digits-digits.result e (omega arith))

pub returns : goal.returns
returns c =
    let e = all_digits (goal.at.returns c).After-add_digits-digits in
    let power : to_z w32 (of_z w32 (to_z w32 (of_z w32 c.args.power) -ℤ to_z w32 (length c.args.fraction.now))) ≡ c.args.power -ℤ pos (length c.args.fraction.now) = omega (arith, ints) in
    let number : ℤ → Option Number = λ p. Some (record { negative = c.args.negative; digits = c.add_digits-digits.result; power = p }) in
    ap number power ∙ sym (joined-whole c.args.negative c.args.whole.now c.args.fraction.now c.args.power c.add_digits-digits.result (omega arith) (omega arith) e (omega arith))
