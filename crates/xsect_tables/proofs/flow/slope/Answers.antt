use Rattle.std.proofs.Common.{◌≡◌, ◌*◌, ◌^◌, pos, ◌*ℤ◌, arith}
use Rattle.std.specs.Int.{int_max}
use Rattle.std.proofs.lemmas.Int.{ints, to_z-of_z}
use Rattle.fixed_num.specs.Ranges.{IsBetween}
use Rattle.fixed_num.specs.Rounding.{quo_of}
use Rattle.fixed_num.proofs.Bounds.{between_number, between_mul, between_quo_by, within_between, within_mul, within_number, fits64, fits128, fits_wider}
use Rattle.xsect_tables.specs.NormalFlow.{slope_of}
use Rattle.xsect_tables.proofs.FlowLemmas.{least_drop, slope-between}
use Rattle.xsect_tables.proofs.flow.slope.Goals as goal
use Rattle.xsect_tables.proofs.flow.slope.Goals.{After-quo, After-quick_root2}

fall : (c : After-quo) → c.max.result ≡ int_max c.args.drop (pos 305)
fall c = simp (to_z-of_z, c.ranges.drop) at c.max.ensures.value

falls : (c : After-quo) → IsBetween (pos 305) c.max.result (pos (4 * 10 ^ 10))
falls c = rw (fall c) (least_drop c.requires.drop)

steep : (c : After-quo) → c.quo.result ≡ quo_of (c.max.result *ℤ pos 1_000_000_000_000) c.args.length
steep c =
    let m = within_between (falls c) in
    let product = within_mul m (within_number 1_000_000_000_000) in
    simp (to_z-of_z, c.ranges.length, fits_wider _ c.ranges.length, fits64 m tt, fits128 m tt, fits128 product tt) at c.quo.ensures.value

small : (c : After-quo) → IsBetween (pos 0) c.quo.result (pos (10 ^ 19))
small c =
    let q = between_quo_by 10_000 (between_mul (falls c) (between_number (pos 1_000_000_000_000))) c.requires.length.from tt in
    rw (steep c) (record { from = q.from; to = omega (arith, ints, q.to) })

value : (c : After-quick_root2) → c.max.result ≡ int_max c.args.drop (pos 305) → c.quo.result ≡ quo_of (c.max.result *ℤ pos 1_000_000_000_000) c.args.length → IsBetween (pos 0) c.quo.result (pos (10 ^ 19)) → c.quick_root2.result ≡ slope_of c.args.drop c.args.length
unfolding slope_of
value c m q s =
    let root = simp (to_z-of_z, fits128 (within_between s) tt) at c.quick_root2.ensures in
    cc (m, q, root)

range : (c : After-quick_root2) → c.quick_root2.result ≡ slope_of c.args.drop c.args.length → IsBetween (pos 0) c.quick_root2.result (pos (2 * 10 ^ 9))
range c v = rw v (slope-between c.requires.drop c.requires.length)

pub overflow_cast-result : goal.overflow_cast-result
overflow_cast-result c =
    let v = value c (fall (goal.at.overflow_cast-result c).After-quo) (steep (goal.at.overflow_cast-result c).After-quo) (small (goal.at.overflow_cast-result c).After-quo) in
    let r = range c v in
    simp (to_z-of_z, fits128 (within_between r) tt) (fits64 (within_between r) tt)

pub returns-clause-value : goal.returns-clause-value
returns-clause-value c =
    let v = value c (fall (goal.at.returns-clause-value c).After-quo) (steep (goal.at.returns-clause-value c).After-quo) (small (goal.at.returns-clause-value c).After-quo) in
    let r = range c v in
    simp (to_z-of_z, fits128 (within_between r) tt, fits64 (within_between r) tt) v

pub returns-clause-range : goal.returns-clause-range
returns-clause-range c =
    let v = value c (fall (goal.at.returns-clause-range c).After-quo) (steep (goal.at.returns-clause-range c).After-quo) (small (goal.at.returns-clause-range c).After-quo) in
    let r = range c v in
    simp (to_z-of_z, fits128 (within_between r) tt, fits64 (within_between r) tt) r
