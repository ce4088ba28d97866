use Rattle.std.proofs.Common.{◌≡◌, ◌∙◌, sym, ap, refl, arith, rules, Some, None, FitsSigned}
use Rattle.std.specs.Int.{w32}
use Rattle.std.proofs.lemmas.Int.{to_z-of_z}
use Rattle.fixed_num.specs.Number.{is_minus, joined, number_of}
use Rattle.fixed_num.proofs.NumberLemmas.{number_of-long, joined-None, read_as, IsSmall-if}
use Rattle.fixed_num.proofs.number.read_number.Goals as goal
use Rattle.fixed_num.proofs.number.read_number.Goals.{After-read_power, After-join}

-- what the parts give
parts : (c : After-read_power) → joined (is_minus c.args.text.now) c.split_digits.result.0.now c.split_fraction.result.0.now c.read_power.result ≡ number_of c.args.text.now
parts c = read_as c.args.text.now c.past_sign.result.now c.split_digits.result.0.now c.split_digits.result.1.now c.split_fraction.result.0.now c.split_fraction.result.1.now (is_minus c.args.text.now) c.read_power.result
    (omega arith) c.past_sign.ensures c.split_digits.ensures.front c.split_digits.ensures.rest c.split_fraction.ensures.fraction c.split_fraction.ensures.rest c.read_power.ensures.value refl

value : (c : After-join) → c.join.result ≡ number_of c.args.text.now
value c =
    let fits : FitsSigned w32 c.in-Some.power = search rules in
    let whole = c.split_digits.result.0.now in
    let fraction = c.split_fraction.result.0.now in
    let at_call : c.join.result ≡ joined c.is_minus.result whole fraction (Some c.in-Some.power) = simp (to_z-of_z, fits) at c.join.ensures in
    at_call
    ∙ ap (λ b. joined b whole fraction (Some c.in-Some.power)) c.is_minus.ensures
    ∙ ap (joined (is_minus c.args.text.now) whole fraction) (sym c.in-Some.is)
    ∙ parts (goal.at.returns-clause-value c).After-read_power

pub returns-then-text-gt-MOST_BYTES-clause-value : goal.returns-then-text-gt-MOST_BYTES-clause-value
returns-then-text-gt-MOST_BYTES-clause-value c = sym (number_of-long c.args.text.now (omega arith))

pub returns-in_default-clause-value : goal.returns-in_default-clause-value
returns-in_default-clause-value c =
    let whole = c.split_digits.result.0.now in
    let fraction = c.split_fraction.result.0.now in
    let none : joined (is_minus c.args.text.now) whole fraction c.read_power.result ≡ None =
    ap (joined (is_minus c.args.text.now) whole fraction) c.in_default.is ∙ joined-None (is_minus c.args.text.now) whole fraction in
    sym none ∙ parts (goal.at.returns-in_default-clause-value c).After-read_power

pub returns-clause-value : goal.returns-clause-value
returns-clause-value = value

pub returns-clause-small : goal.returns-clause-small
returns-clause-small c = IsSmall-if c.args.text.now c.join.result (value c)
