use Rattle.std.proofs.Common.{◌≡◌, ◌*◌, ◌^◌, pos, ◌*ℤ◌, ap, ◌∙◌, arith}
use Rattle.std.specs.Int.{int_max}
use Rattle.std.proofs.lemmas.Int.{to_z-of_z}
use Rattle.fixed_num.specs.Ranges.{IsBetween}
use Rattle.fixed_num.specs.Rounding.{quo_of}
use Rattle.fixed_num.proofs.Bounds.{within_between, within_mul, within_number, fits64, fits128, fits_wider}
use Rattle.xsect_tables.specs.LookUps.{ratio_of}
use Rattle.xsect_tables.proofs.FlowLemmas.{at_least, ratio-between}
use Rattle.xsect_tables.proofs.flow.ratio.Goals as goal
use Rattle.xsect_tables.proofs.flow.ratio.Goals.{After-quo}

wide : (c : After-quo) → c.max.result ≡ int_max c.args.perimeter (pos 1)
wide c = simp (to_z-of_z, c.ranges.perimeter) at c.max.ensures.value

value : (c : After-quo) → c.quo.result ≡ ratio_of c.args.area c.args.perimeter
unfolding ratio_of
value c =
    let product = within_mul (within_between c.requires.area) (within_number 1_000_000) in
    let divisor : IsBetween (pos 1) c.max.result (pos (10 ^ 18)) = rw (wide c) (at_least 1 c.requires.perimeter (omega arith)) in
    let m = within_between divisor in
    let quotient = simp (to_z-of_z, c.ranges.area, fits_wider _ c.ranges.area, fits64 m tt, fits128 m tt, fits128 product tt) at c.quo.ensures.value in
    quotient ∙ ap (quo_of (c.args.area *ℤ pos 1_000_000)) (wide c)

range : (c : After-quo) → c.quo.result ≡ ratio_of c.args.area c.args.perimeter → IsBetween (pos 0) c.quo.result (pos (3 * 10 ^ 13))
range c v = rw v (ratio-between c.requires.area c.requires.perimeter c.requires.wet)

pub overflow_cast-result : goal.overflow_cast-result
overflow_cast-result c =
    let v = value c in
    let r = range c v in
    simp (to_z-of_z, fits128 (within_between r) tt) (fits64 (within_between r) tt)

pub returns-clause-value : goal.returns-clause-value
returns-clause-value c =
    let v = value c in
    let r = range c v in
    simp (to_z-of_z, fits128 (within_between r) tt, fits64 (within_between r) tt) v

pub returns-clause-range : goal.returns-clause-range
returns-clause-range c =
    let v = value c in
    let r = range c v in
    simp (to_z-of_z, fits128 (within_between r) tt, fits64 (within_between r) tt) r
