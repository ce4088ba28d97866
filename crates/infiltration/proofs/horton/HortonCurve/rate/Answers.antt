use Rattle.std.proofs.Common.{◌≡◌, ap, ◌∙◌, ℤ, pos, ◌-ℤ◌, ◌*ℤ◌, ◌^◌}
use Rattle.std.proofs.lemmas.Int.{to_z-of_z}
use Rattle.fixed_num.specs.Ranges.{IsBetween, IsWithin, cut_of}
use Rattle.fixed_num.specs.Rounding.{quo_of}
use Rattle.fixed_num.proofs.Bounds.{within_mul, within_sub, within_quo, within_between, within_both, fits64, fits128, fits_wider}
use Rattle.infiltration.specs.Horton.{rate_of}
use Rattle.infiltration.proofs.HortonLemmas.{rate_between}
use Rattle.infiltration.proofs.horton.HortonCurve.rate.Goals as goal
use Rattle.infiltration.proofs.horton.HortonCurve.rate.Goals.{After-quo-fall, After-cut}

fall : (c : After-quo-fall) → c.quo-fall.result ≡ quo_of (c.args.self.now.decay6 *ℤ c.args.above) (pos 1_000_000)
fall c =
    let decay = within_between c.requires.curve.decay in
    let product = within_mul decay (within_between c.requires.above) in
    simp (to_z-of_z, fits64 decay tt, fits128 decay tt, c.ranges.above, fits_wider _ c.ranges.above, fits128 product tt) at c.quo-fall.ensures.value

fall-within : (c : After-quo-fall) → IsWithin (10 ^ 24) c.quo-fall.result
fall-within c = rw (fall c) (within_quo (pos 1_000_000) (within_mul (within_between c.requires.curve.decay) (within_between c.requires.above)))

pub overflow_sub-self : goal.overflow_sub-self
overflow_sub-self c =
    let fall = fall-within (goal.at.overflow_sub-self c).After-quo-fall in
    let max = within_between c.requires.curve.max in
    simp (to_z-of_z, fits128 fall tt, fits64 max tt, fits128 max tt) (fits128 (within_sub max fall) tt)

value : (c : After-cut) → IsWithin (10 ^ 24) c.quo-fall.result → c.quo-fall.result ≡ quo_of (c.args.self.now.decay6 *ℤ c.args.above) (pos 1_000_000) → c.cut.result ≡ rate_of c.args.self.now c.args.above
unfolding rate_of
value c fall e =
    let max = within_between c.requires.curve.max in
    let min = within_between c.requires.curve.min in
    let v = simp (to_z-of_z, fits128 fall tt, fits64 max tt, fits128 max tt, fits64 min tt, fits128 min tt, fits128 (within_sub max fall) tt) at c.cut.ensures.value in
    v ∙ ap (λ (z : ℤ). cut_of (c.args.self.now.max -ℤ z) c.args.self.now.min c.args.self.now.max) e

between : (c : After-cut) → IsBetween c.args.self.now.min c.cut.result c.args.self.now.max
between c =
    let max = within_between c.requires.curve.max in
    let min = within_between c.requires.curve.min in
    simp (to_z-of_z, fits64 max tt, fits128 max tt, fits64 min tt, fits128 min tt) at c.cut.ensures.between

small : (c : After-cut) → IsWithin (10 ^ 10) c.cut.result
small c = within_both (between c) (within_between c.requires.curve.min) (within_between c.requires.curve.max)

pub overflow_cast-result : goal.overflow_cast-result
overflow_cast-result c = simp (to_z-of_z, fits128 (small c) tt) (fits64 (small c) tt)

pub returns-clause-value : goal.returns-clause-value
returns-clause-value c =
    let before = (goal.at.returns-clause-value c).After-quo-fall in
    simp (to_z-of_z, fits128 (small c) tt, fits64 (small c) tt) (value c (fall-within before) (fall before))

pub returns-clause-range : goal.returns-clause-range
returns-clause-range c = simp (to_z-of_z, fits128 (small c) tt, fits64 (small c) tt) (between c)
