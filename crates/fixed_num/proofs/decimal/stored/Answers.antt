use Rattle.std.proofs.Common.{◌≡◌, ◌*◌, ◌^◌, ◌∙◌, sym, ap, rules, ℕ, pos, FitsSigned, unsigned_abs}
use Rattle.std.specs.Int.{w32, w128}
use Rattle.std.proofs.lemmas.Int.{to_z-of_z}
use Rattle.fixed_num.specs.Number.{signed}
use Rattle.fixed_num.specs.Rounding.{rounded}
use Rattle.fixed_num.proofs.DecimalLemmas.{stored_value-raised, stored_value-lowered, below_from_test, from_zero_from_test}
use Rattle.fixed_num.proofs.decimal.stored.Goals as goal
use Rattle.fixed_num.proofs.decimal.stored.Goals.{After-unsigned_abs-power}

fits_power : (c : After-unsigned_abs-power) → FitsSigned w32 c.args.number.power
fits_power c = search rules

power : (c : After-unsigned_abs-power) → c.unsigned_abs-power.result ≡ unsigned_abs c.args.number.power
power c = let fits = fits_power c in simp (to_z-of_z, fits) at c.unsigned_abs-power.ensures.value

pub returns-then-number-lt0 : goal.returns-then-number-lt0
returns-then-number-lt0 c =
    let start = (goal.at.returns-then-number-lt0 c).After-unsigned_abs-power in
    let fits : FitsSigned w128 c.signed.result = search rules in
    let number = c.args.number in
    let unit = c.args.unit.now in
    let size : c.lowered.result ≡ rounded (number.digits * unit.num) (unit.den * 10 ^ unsigned_abs number.power) =
    c.lowered.ensures.value ∙ ap (λ (k : ℕ). rounded (number.digits * unit.num) (unit.den * 10 ^ k)) (power start) in
    to_z-of_z w128 c.signed.result fits ∙ c.signed.ensures ∙ ap (λ (n : ℕ). signed number.negative (pos n)) size
    ∙ sym (stored_value-lowered unit number.negative number.digits number.power (below_from_test number.power (fits_power start) c.if-number-lt0.true))

pub returns-else-number-lt0 : goal.returns-else-number-lt0
returns-else-number-lt0 c =
    let start = (goal.at.returns-else-number-lt0 c).After-unsigned_abs-power in
    let fits : FitsSigned w128 c.signed-else-number-lt0.result = search rules in
    let number = c.args.number in
    let unit = c.args.unit.now in
    let size : c.raised.result ≡ rounded (number.digits * unit.num * 10 ^ unsigned_abs number.power) unit.den =
    c.raised.ensures.value ∙ ap (λ (k : ℕ). rounded (number.digits * unit.num * 10 ^ k) unit.den) (power start) in
    to_z-of_z w128 c.signed-else-number-lt0.result fits ∙ c.signed-else-number-lt0.ensures ∙ ap (λ (n : ℕ). signed number.negative (pos n)) size
    ∙ sym (stored_value-raised unit number.negative number.digits number.power (from_zero_from_test number.power (fits_power start) c.if-number-lt0.false))
