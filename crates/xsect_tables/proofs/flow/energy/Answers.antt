use Rattle.std.proofs.Common.{◌≡◌, ◌^◌, pos, ◌*ℤ◌, ap, ◌∙◌, arith}
use Rattle.std.specs.Int.{int_max}
use Rattle.std.proofs.lemmas.Int.{ints, to_z-of_z}
use Rattle.fixed_num.specs.Ranges.{IsBetween}
use Rattle.fixed_num.specs.Rounding.{quo_of}
use Rattle.fixed_num.proofs.Bounds.{between_number, between_mul, between_up, between_quo_by, within_between, within_mul, within_number, fits64, fits128, fits_wider}
use Rattle.xsect_tables.proofs.FlowLemmas.{at_least}
use Rattle.xsect_tables.proofs.flow.energy.Goals as goal
use Rattle.xsect_tables.proofs.flow.energy.Goals.{After-quo}

wide : (c : After-quo) → c.max.result ≡ int_max c.args.width (pos 1)
wide c = simp (to_z-of_z, c.ranges.width) at c.max.ensures.value

divisor : (c : After-quo) → IsBetween (pos 1) c.max.result (pos (10 ^ 18))
divisor c = rw (wide c) (at_least 1 c.requires.width (omega arith))

depth : (c : After-quo) → c.quo.result ≡ quo_of (c.args.area *ℤ pos 1_000_000) c.max.result
depth c =
    let product = within_mul (within_between c.requires.area) (within_number 1_000_000) in
    let m = within_between (divisor c) in
    simp (to_z-of_z, c.ranges.area, fits_wider _ c.ranges.area, fits64 m tt, fits128 m tt, fits128 product tt) at c.quo.ensures.value

deep : (c : After-quo) → IsBetween (pos 0) c.quo.result (pos (10 ^ 25))
deep c =
    let q = between_quo_by 1 (between_mul c.requires.area (between_number (pos 1_000_000))) (divisor c).from tt in
    rw (depth c) (record { from = q.from; to = omega (arith, ints, q.to) })

product : (c : After-quo) → IsBetween (pos 0) (pos 9_814_560 *ℤ c.quo.result) (pos (10 ^ 32))
product c = between_up (between_mul (between_number (pos 9_814_560)) (deep c)) tt tt

pub overflow_mul-result : goal.overflow_mul-result
overflow_mul-result c =
    let d = deep (goal.at.overflow_mul-result c).After-quo in
    let p = product (goal.at.overflow_mul-result c).After-quo in
    simp (to_z-of_z, fits128 (within_between d) tt) (fits128 (within_between p) tt)

pub returns-clause-value : goal.returns-clause-value
returns-clause-value c =
    let a = (goal.at.returns-clause-value c).After-quo in
    let d = deep a in
    let p = product a in
    simp (to_z-of_z, fits128 (within_between d) tt, fits128 (within_between p) tt) (ap (λ q. pos 9_814_560 *ℤ q) (depth a ∙ ap (quo_of (c.args.area *ℤ pos 1_000_000)) (wide a)))

pub returns-clause-range : goal.returns-clause-range
returns-clause-range c =
    let a = (goal.at.returns-clause-range c).After-quo in
    let d = deep a in
    let p = product a in
    simp (to_z-of_z, fits128 (within_between d) tt, fits128 (within_between p) tt) p
