use Rattle.std.proofs.Common.{◌≡◌, ◌+◌, ◌*◌, ◌^◌, ℤ, pos, ◌+ℤ◌, ◌-ℤ◌, ◌≤ℤ◌, FitsSigned, sym, subst, arith}
use Rattle.std.specs.Int.{w64}
use Rattle.std.proofs.lemmas.Int.{ints, to_z-of_z}
use Rattle.fixed_num.specs.Ranges.{IsBetween, IsWithin}
use Rattle.fixed_num.specs.Rounding.{quo_of}
use Rattle.fixed_num.proofs.Bounds.{between_mul, within_between, within_add, within_sub, within_quo, fits64, fits128}
use Rattle.xsect_tables.specs.SectionTable.{grid_height as height_of_grid, strip_area as area_of_strip}
use Rattle.xsect_tables.specs.Sections.{width_at as section_width}
use Rattle.xsect_tables.proofs.GridLemmas.{grid_order, middle_in_full, within_full}
use Rattle.xsect_tables.proofs.rows.strip_area.Goals as goal
use Rattle.xsect_tables.proofs.rows.strip_area.Goals.{After-width_at}

low : (c : After-width_at) → IsWithin (10 ^ 9) c.grid_height-low.result
low c = within_between c.grid_height-low.ensures.range

high : (c : After-width_at) → IsWithin (10 ^ 9) c.grid_height-high.result
high c = within_between c.grid_height-high.ensures.range

middle : (c : After-width_at) → c.quo-middle.result ≡ quo_of (c.grid_height-low.result +ℤ c.grid_height-high.result) (pos 2)
middle c = simp (to_z-of_z, fits64 (low c) tt, fits128 (low c) tt, fits64 (high c) tt, fits128 (high c) tt, fits128 (within_add (low c) (high c)) tt) at c.quo-middle.ensures.value

middle_within : (c : After-width_at) → IsWithin (10 ^ 9 + 10 ^ 9) c.quo-middle.result
middle_within c = subst (IsWithin (10 ^ 9 + 10 ^ 9)) (sym (middle c)) (within_quo (pos 2) (within_add (low c) (high c)))

width : (c : After-width_at) → c.width_at.result ≡ section_width c.args.section.now c.quo-middle.result
width c = simp (to_z-of_z, fits64 (middle_within c) tt, fits128 (middle_within c) tt) at c.width_at.ensures.value

wide : (c : After-width_at) → IsBetween (pos 0) c.width_at.result (pos (3 * 10 ^ 11))
wide c = c.width_at.ensures.range

full_fits : (c : After-width_at) → FitsSigned w64 c.args.section.now.full
full_fits c = fits64 (within_between c.requires.range.full_in) tt

rise : (c : After-width_at) → IsBetween (pos 0) (c.grid_height-high.result -ℤ c.grid_height-low.result) (pos (10 ^ 9))
rise c =
    let l = simp (to_z-of_z, full_fits c) at c.grid_height-low.ensures.value in
    let h = simp (to_z-of_z, full_fits c) at c.grid_height-high.ensures.value in
    let from = c.grid_height-low.ensures.range.from in
    let to = c.grid_height-high.ensures.range.to in
    let P : ℤ → Type 0 = λ z. z ≤ℤ c.grid_height-high.result in
    let Q : ℤ → Type 0 = λ z. height_of_grid c.args.section.now.full c.args.i ≤ℤ z in
    let order : c.grid_height-low.result ≤ℤ c.grid_height-high.result = subst P (sym l) (subst Q (sym h) (grid_order c.requires.range.full_in c.args.i (c.args.i + 1) (omega arith))) in
    record { from = omega (arith, ints); to = omega (arith, ints) }

pub width_at-requires-clause-depth : goal.width_at-requires-clause-depth
width_at-requires-clause-depth c =
    let full = fits64 (within_between c.requires.range.full_in) tt in
    let l = within_between c.grid_height-low.ensures.range in
    let h = within_between c.grid_height-high.ensures.range in
    let m = simp (to_z-of_z, fits64 l tt, fits128 l tt, fits64 h tt, fits128 h tt, fits128 (within_add l h) tt) at c.quo-middle.ensures.value in
    let inside_low = simp (to_z-of_z, full) at c.grid_height-low.ensures.within in
    let inside_high = simp (to_z-of_z, full) at c.grid_height-high.ensures.within in
    let inside : IsBetween (pos 0) c.quo-middle.result c.args.section.now.full = rw m (middle_in_full inside_low inside_high) in
    let small = within_between (within_full c.requires.range.full_in inside) in
    simp (to_z-of_z, fits128 small tt, fits64 small tt) inside

pub overflow_mul-result : goal.overflow_mul-result
overflow_mul-result c =
    simp (to_z-of_z, fits64 (low c) tt, fits128 (low c) tt, fits64 (high c) tt, fits128 (high c) tt, fits64 (within_between (wide c)) tt, fits128 (within_between (wide c)) tt, fits128 (within_sub (high c) (low c)) tt) (fits128 (within_between (between_mul (wide c) (rise c))) tt)

pub returns-clause-value : goal.returns-clause-value
unfolding area_of_strip
returns-clause-value c =
    let l = simp (to_z-of_z, full_fits c) at c.grid_height-low.ensures.value in
    let h = simp (to_z-of_z, full_fits c) at c.grid_height-high.ensures.value in
    let m = middle c in
    let w = width c in
    simp (to_z-of_z, fits64 (low c) tt, fits128 (low c) tt, fits64 (high c) tt, fits128 (high c) tt, fits64 (within_between (wide c)) tt, fits128 (within_between (wide c)) tt, fits128 (within_sub (high c) (low c)) tt, fits128 (within_between (between_mul (wide c) (rise c))) tt) (cc (l, h, m, w))

pub returns-clause-range : goal.returns-clause-range
returns-clause-range c =
    simp (to_z-of_z, fits64 (low c) tt, fits128 (low c) tt, fits64 (high c) tt, fits128 (high c) tt, fits64 (within_between (wide c)) tt, fits128 (within_between (wide c)) tt, fits128 (within_sub (high c) (low c)) tt, fits128 (within_between (between_mul (wide c) (rise c))) tt) (between_mul (wide c) (rise c))
