use Rattle.std.proofs.Common.{rules, ◌≡◌, ◌^◌, FitsSigned, pos, ◌*ℤ◌, ap, ◌∙◌, ℤ}
use Rattle.std.specs.Int.{w128}
use Rattle.std.proofs.lemmas.Int.{to_z-of_z}
use Rattle.fixed_num.specs.Ranges.{cut_of}
use Rattle.fixed_num.specs.Rounding.{quo_of}
use Rattle.fixed_num.specs.declared.unit.Unit.{Unit as Scale}
use Rattle.fixed_num.proofs.Bounds.{fits64, fits128, within_between}
use Rattle.rain_gages.specs.Intensity.{rate_of}
use Rattle.rain_gages.proofs.RateLemmas.{value_within, number_within, divisor_within}
use Rattle.rain_gages.proofs.gages.rate.Goals as goal
use Rattle.rain_gages.proofs.gages.rate.Goals.{After-cut}

value : (c : After-cut) → c.cut.result ≡ cut_of (quo_of (c.args.value6 *ℤ pos c.unit_of-unit.result.num)
    (pos c.unit_of-unit.result.den *ℤ pos 1_000_000)) (pos 0) (pos (10 ^ 10))
value c =
    let unit = c.unit_of-unit.ensures.unit in
    let fits : FitsSigned w128 c.quo-rate.result = search rules in
    let wide = fits128 c.requires tt in
    let num = fits128 (number_within unit.num_at_most) tt in
    let den = fits128 (number_within unit.den_at_most) tt in
    let product = fits128 (value_within c.requires unit.num_at_most) tt in
    let divisor = fits128 (divisor_within unit.den_at_most) tt in
    let quotient = simp (to_z-of_z, c.ranges.value6, wide, num, den, product, divisor) at c.quo-rate.ensures.value in
    let cut = simp (to_z-of_z, fits) at c.cut.ensures.value in
    cut ∙ ap (λ (z : ℤ). cut_of z (pos 0) (pos (10 ^ 10))) quotient

pub returns-clause-value : goal.returns-clause-value
unfolding rate_of
returns-clause-value c =
    let within = within_between c.cut.ensures.between in
    let unit = c.unit_of-unit.ensures.value in
    let of_unit = λ (u : Scale). cut_of (quo_of (c.args.value6 *ℤ pos u.num) (pos u.den *ℤ pos 1_000_000)) (pos 0)
    (pos (10 ^ 10)) in
    simp (to_z-of_z, fits128 within tt, fits64 within tt) (value c ∙ ap of_unit unit)

pub returns-clause-range : goal.returns-clause-range
returns-clause-range c =
    let within = within_between c.cut.ensures.between in
    simp (to_z-of_z, fits128 within tt, fits64 within tt) c.cut.ensures.between
