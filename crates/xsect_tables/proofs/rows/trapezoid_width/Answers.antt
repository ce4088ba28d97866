use Rattle.std.proofs.Common.{◌≡◌, ◌*◌, ◌^◌, ℤ, pos, ◌+ℤ◌, ◌*ℤ◌, ap}
use Rattle.std.proofs.lemmas.Int.{to_z-of_z}
use Rattle.fixed_num.specs.Ranges.{IsBetween}
use Rattle.fixed_num.specs.Rounding.{quo_of}
use Rattle.fixed_num.proofs.Bounds.{within_add, within_mul, within_between, fits64, fits128, fits_wider}
use Rattle.xsect_tables.proofs.WidthLemmas.{spread-between, trapezoid-between}
use Rattle.xsect_tables.proofs.rows.trapezoid_width.Goals as goal
use Rattle.xsect_tables.proofs.rows.trapezoid_width.Goals.{After-quo-spread}

spread : (c : After-quo-spread) → c.quo-spread.result ≡ quo_of ((c.args.left6 +ℤ c.args.right6) *ℤ c.args.y) (pos 1_000_000)
spread c =
    let both = within_add (within_between c.requires.left) (within_between c.requires.right) in
    let product = within_mul both (within_between c.requires.depth) in
    simp (to_z-of_z, c.ranges.left6, fits_wider _ c.ranges.left6, c.ranges.right6, fits_wider _ c.ranges.right6, c.ranges.y, fits_wider _ c.ranges.y, fits128 both tt, fits128 product tt) at c.quo-spread.ensures.value

small : (c : After-quo-spread) → IsBetween (pos 0) c.quo-spread.result (pos (2 * 10 ^ 11))
small c = rw (spread c) (spread-between c.requires.left c.requires.right c.requires.depth)

pub overflow_add-result : goal.overflow_add-result
overflow_add-result c =
    let s = within_between (small c) in
    simp (to_z-of_z, c.ranges.bottom, fits_wider _ c.ranges.bottom, fits128 s tt) (fits128 (within_add (within_between c.requires.bottom) s) tt)

pub overflow_cast-result-2 : goal.overflow_cast-result-2
overflow_cast-result-2 c =
    let s = within_between (small c) in
    let sum = within_add (within_between c.requires.bottom) s in
    simp (to_z-of_z, c.ranges.bottom, fits_wider _ c.ranges.bottom, fits128 s tt, fits128 sum tt) (fits64 sum tt)

pub returns-clause-value : goal.returns-clause-value
returns-clause-value c =
    let s = within_between (small c) in
    let sum = within_add (within_between c.requires.bottom) s in
    simp (to_z-of_z, c.ranges.bottom, fits_wider _ c.ranges.bottom, fits128 s tt, fits128 sum tt, fits64 sum tt) (ap (λ (z : ℤ). c.args.bottom +ℤ z) (spread c))

pub returns-clause-range : goal.returns-clause-range
returns-clause-range c =
    let s = within_between (small c) in
    let sum = within_add (within_between c.requires.bottom) s in
    simp (to_z-of_z, c.ranges.bottom, fits_wider _ c.ranges.bottom, fits128 s tt, fits128 sum tt, fits64 sum tt)
    (rw (spread c) (trapezoid-between c.requires.bottom c.requires.left c.requires.right c.requires.depth))
