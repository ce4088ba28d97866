use Rattle.std.proofs.Common.{◌≡◌, ℕ, List, ◌∷◌, ◌++◌, ◌∙◌, sym, ap, arith, rules, true, false, unsigned_abs, FitsSigned}
use Rattle.std.specs.Int.{w128, is_negative}
use Rattle.std.proofs.lemmas.Int.{to_z-of_z}
use Rattle.fixed_num.specs.Decimal.{placed}
use Rattle.fixed_num.proofs.PutLemmas.{first_put, decimal_text-below, decimal_text-above}
use Rattle.fixed_num.proofs.put.put_decimal.Goals as goal

pub returns-then-number-lt0-clause-text : goal.returns-then-number-lt0-clause-text
returns-then-number-lt0-clause-text c =
    let number = c.in_places-number.result in
    let fits : FitsSigned w128 c.in_places-number.result = search rules in
    let value = simp (to_z-of_z, c.ranges.value) at c.in_places-number.ensures in
    let size : c.unsigned_abs.result ≡ unsigned_abs c.in_places-number.result = simp (to_z-of_z, fits) at c.unsigned_abs.ensures.value in
    let below : is_negative c.in_places-number.result ≡ true = simp (to_z-of_z, fits) at c.if-number-lt0.true in
    c.put_placed.ensures.text
    ∙ ap (λ (t : List ℕ). t ++ placed c.unsigned_abs.result c.args.places) (first_put c.args.to.now (omega arith))
    ∙ ap (λ (n : ℕ). 45 ∷ placed n c.args.places) size
    ∙ sym (decimal_text-below c.args.value c.args.unit.now c.args.places number value below)

pub returns-else-number-lt0-clause-text : goal.returns-else-number-lt0-clause-text
returns-else-number-lt0-clause-text c =
    let number = c.in_places-number.result in
    let fits : FitsSigned w128 c.in_places-number.result = search rules in
    let value = simp (to_z-of_z, c.ranges.value) at c.in_places-number.ensures in
    let size : c.unsigned_abs-else-number-lt0.result ≡ unsigned_abs c.in_places-number.result = simp (to_z-of_z, fits) at c.unsigned_abs-else-number-lt0.ensures.value in
    let above : is_negative c.in_places-number.result ≡ false = simp (to_z-of_z, fits) at c.if-number-lt0.false in
    c.put_placed-else-number-lt0.ensures.text
    ∙ ap (λ (n : ℕ). placed n c.args.places) size
    ∙ sym (decimal_text-above c.args.value c.args.unit.now c.args.places number value above)
