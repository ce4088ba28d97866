use Rattle.std.proofs.Common.{rules, ◌≡◌, ◌^◌, ◌*◌, FitsSigned, pos, neg_ℤ, ◌*ℤ◌, ap, ◌∙◌, subst, sym, ℤ}
use Rattle.std.specs.Int.{w128}
use Rattle.std.proofs.lemmas.Int.{to_z-of_z}
use Rattle.fixed_num.specs.Ranges.{IsWithin, IsBetween, cut_of}
use Rattle.fixed_num.specs.Rounding.{quo_of}
use Rattle.fixed_num.specs.declared.unit.Unit.{Unit as Scale}
use Rattle.fixed_num.proofs.Bounds.{fits64, fits128, within_both, within_minus, within_number, within_up}
use Rattle.time_series.specs.Stages.{elevation_of}
use Rattle.time_series.proofs.AmountLemmas.{product_within, number_within, divisor_within}
use Rattle.time_series.proofs.stages.elevation.Goals as goal
use Rattle.time_series.proofs.stages.elevation.Goals.{After-cut}

value : (c : After-cut) → c.cut.result ≡ cut_of (quo_of (c.args.value6 *ℤ pos c.unit_of-unit.result.num)
    (pos c.unit_of-unit.result.den *ℤ pos 1_000_000)) (neg_ℤ (pos (10 ^ 10))) (pos (10 ^ 10))
value c =
    let unit = c.unit_of-unit.ensures.unit in
    let fits : FitsSigned w128 c.quo-level.result = search rules in
    let wide = fits128 c.requires tt in
    let num = fits128 (number_within unit.num_at_most) tt in
    let den = fits128 (number_within unit.den_at_most) tt in
    let product = fits128 (product_within (within_up c.requires tt) unit.num_at_most) tt in
    let divisor = fits128 (divisor_within unit.den_at_most) tt in
    let quotient = simp (to_z-of_z, c.ranges.value6, wide, num, den, product, divisor) at c.quo-level.ensures.value in
    let cut = simp (to_z-of_z, fits) at c.cut.ensures.value in
    cut ∙ ap (λ (z : ℤ). cut_of z (neg_ℤ (pos (10 ^ 10))) (pos (10 ^ 10))) quotient

range : (c : After-cut) → IsWithin (10 ^ 10) c.cut.result
range c = within_both c.cut.ensures.between (within_minus (10 ^ 10)) (within_number (10 ^ 10))

pub returns-clause-value : goal.returns-clause-value
unfolding elevation_of
returns-clause-value c =
    let unit = c.unit_of-unit.ensures.value in
    let of_unit = λ (u : Scale). cut_of (quo_of (c.args.value6 *ℤ pos u.num) (pos u.den *ℤ pos 1_000_000))
    (neg_ℤ (pos (10 ^ 10))) (pos (10 ^ 10)) in
    simp (to_z-of_z, fits128 (range c) tt, fits64 (range c) tt) (value c ∙ ap of_unit unit)

pub returns-clause-range : goal.returns-clause-range
returns-clause-range c = simp (to_z-of_z, fits128 (range c) tt, fits64 (range c) tt) (range c)
