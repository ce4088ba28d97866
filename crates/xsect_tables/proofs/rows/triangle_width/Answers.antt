use Rattle.std.proofs.Common.{◌≡◌, ◌^◌, pos, ◌*ℤ◌}
use Rattle.std.proofs.lemmas.Int.{to_z-of_z}
use Rattle.fixed_num.specs.Ranges.{IsBetween}
use Rattle.fixed_num.specs.Rounding.{quo_of}
use Rattle.fixed_num.proofs.Bounds.{within_mul, within_between, fits64, fits128, fits_wider}
use Rattle.xsect_tables.proofs.GridLemmas.{within_full}
use Rattle.xsect_tables.proofs.WidthLemmas.{triangle-between}
use Rattle.xsect_tables.proofs.rows.triangle_width.Goals as goal
use Rattle.xsect_tables.proofs.rows.triangle_width.Goals.{After-quo}

value : (c : After-quo) → c.quo.result ≡ quo_of (c.args.top *ℤ c.args.y) c.args.full
value c =
    let product = within_mul (within_between c.requires.top) (within_between (within_full c.requires.full c.requires.depth)) in
    simp (to_z-of_z, c.ranges.top, fits_wider _ c.ranges.top, c.ranges.y, fits_wider _ c.ranges.y, c.ranges.full, fits_wider _ c.ranges.full, fits128 product tt) at c.quo.ensures.value

small : (c : After-quo) → IsBetween (pos 0) c.quo.result (pos (10 ^ 10))
small c = rw (value c) (triangle-between c.requires.top c.requires.full c.requires.depth)

pub overflow_cast-result : goal.overflow_cast-result
overflow_cast-result c = simp (to_z-of_z, fits128 (within_between (small c)) tt) (fits64 (within_between (small c)) tt)

pub returns-clause-value : goal.returns-clause-value
returns-clause-value c = simp (to_z-of_z, fits128 (within_between (small c)) tt, fits64 (within_between (small c)) tt) (value c)

pub returns-clause-range : goal.returns-clause-range
returns-clause-range c = simp (to_z-of_z, fits128 (within_between (small c)) tt, fits64 (within_between (small c)) tt) (small c)
