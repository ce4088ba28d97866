use Rattle.std.proofs.Common.{rules, ◌≡◌, pos, ◌*ℤ◌, FitsSigned, ◌^◌, ap, sym, subst, ◌∙◌}
use Rattle.std.specs.Int.{w128}
use Rattle.std.proofs.lemmas.Int.{to_z-of_z}
use Rattle.fixed_num.proofs.Bounds.{fits128}
use Rattle.fixed_num.specs.Ranges.{IsWithin}
use Rattle.fixed_num.specs.Rounding.{quo_of}
use Rattle.fixed_num.specs.declared.unit.Unit.{Unit as Scale}
use Rattle.time_series.specs.Inflows.{flow_of}
use Rattle.time_series.proofs.AmountLemmas.{num_of, den_of, product_within, quotient_within, number_within}
use Rattle.time_series.proofs.AmountLemmas.{divisor_within}
use Rattle.time_series.proofs.amounts.flow_of.Goals as goal
use Rattle.time_series.proofs.amounts.flow_of.Goals.{After-quo}

value : (c : After-quo) → c.quo.result ≡ quo_of (c.args.amount *ℤ pos c.unit_of-unit.result.num)
    (pos c.unit_of-unit.result.den *ℤ pos 1_000_000)
value c =
    let unit = c.unit_of-unit.ensures.unit in
    let wide = fits128 c.requires tt in
    let num = fits128 (number_within unit.num_at_most) tt in
    let den = fits128 (number_within unit.den_at_most) tt in
    let product = fits128 (product_within c.requires unit.num_at_most) tt in
    let divisor = fits128 (divisor_within unit.den_at_most) tt in
    simp (to_z-of_z, wide, num, den, product, divisor) at c.quo.ensures.value

pub returns-clause-value : goal.returns-clause-value
unfolding flow_of
returns-clause-value c =
    let fits : FitsSigned w128 c.quo.result = search rules in
    let num = ap (λ (u : Scale). u.num) c.unit_of-unit.ensures.value ∙ num_of c.args.units in
    let den = ap (λ (u : Scale). u.den) c.unit_of-unit.ensures.value ∙ den_of c.args.units in
    let same = value c in
    simp (to_z-of_z, fits) (rw (num, den) at same)

pub returns-clause-range : goal.returns-clause-range
returns-clause-range c =
    let fits : FitsSigned w128 c.quo.result = search rules in
    let unit = c.unit_of-unit.ensures.unit in
    let range = subst (IsWithin (10 ^ 30)) (sym (value c))
    (quotient_within (product_within c.requires unit.num_at_most) unit.den_positive) in
    simp (to_z-of_z, fits) range
