use Rattle.std.proofs.Common.{◌≡◌, ◌^◌, ℤ, pos, sym, subst}
use Rattle.std.proofs.lemmas.Int.{to_z-of_z}
use Rattle.fixed_num.specs.Ranges.{IsBetween}
use Rattle.fixed_num.proofs.Bounds.{within_between, within_add, within_mul, within_number, fits64, fits128, fits_wider}
use Rattle.xsect_tables.specs.SectionTable.{sides_of}
use Rattle.xsect_tables.proofs.StripLemmas.{squares_from_zero, sides_between}
use Rattle.xsect_tables.proofs.rows.sides.Goals as goal
use Rattle.xsect_tables.proofs.rows.sides.Goals.{After-quick_root2}

pub overflow_mul-rise-2 : goal.overflow_mul-rise-2
overflow_mul-rise-2 c =
    let square = within_mul c.requires.rise c.requires.rise in
    simp (to_z-of_z, c.ranges.rise, fits_wider _ c.ranges.rise, fits128 square tt) (fits128 (within_mul (within_number 4) square) tt)

pub overflow_add-rise : goal.overflow_add-rise
overflow_add-rise c =
    let square = within_mul c.requires.rise c.requires.rise in
    let four = within_mul (within_number 4) square in
    let s = within_mul c.requires.spread c.requires.spread in
    simp (to_z-of_z, c.ranges.rise, fits_wider _ c.ranges.rise, c.ranges.spread, fits_wider _ c.ranges.spread, fits128 square tt, fits128 four tt, fits128 s tt) (fits128 (within_add four s) tt)

pub quick_root2-requires : goal.quick_root2-requires
quick_root2-requires c =
    let square = within_mul c.requires.rise c.requires.rise in
    let four = within_mul (within_number 4) square in
    let s = within_mul c.requires.spread c.requires.spread in
    simp (to_z-of_z, c.ranges.rise, fits_wider _ c.ranges.rise, c.ranges.spread, fits_wider _ c.ranges.spread, fits128 square tt, fits128 four tt, fits128 s tt, fits128 (within_add four s) tt) (squares_from_zero c.args.rise c.args.spread)

value : (c : After-quick_root2) → c.quick_root2.result ≡ sides_of c.args.rise c.args.spread
unfolding sides_of
value c =
    let square = within_mul c.requires.rise c.requires.rise in
    let four = within_mul (within_number 4) square in
    let s = within_mul c.requires.spread c.requires.spread in
    simp (to_z-of_z, c.ranges.rise, fits_wider _ c.ranges.rise, c.ranges.spread, fits_wider _ c.ranges.spread, fits128 square tt, fits128 four tt, fits128 s tt, fits128 (within_add four s) tt) at c.quick_root2.ensures

range : (c : After-quick_root2) → IsBetween (pos 0) c.quick_root2.result (pos (10 ^ 12))
range c = subst (λ (z : ℤ). IsBetween (pos 0) z (pos (10 ^ 12))) (sym (value c)) (sides_between c.requires.rise c.requires.spread)

pub overflow_cast-result : goal.overflow_cast-result
overflow_cast-result c = simp (to_z-of_z, fits128 (within_between (range c)) tt) (fits64 (within_between (range c)) tt)

pub returns-clause-value : goal.returns-clause-value
returns-clause-value c = simp (to_z-of_z, fits128 (within_between (range c)) tt, fits64 (within_between (range c)) tt) (value c)

pub returns-clause-range : goal.returns-clause-range
returns-clause-range c = simp (to_z-of_z, fits128 (within_between (range c)) tt, fits64 (within_between (range c)) tt) (range c)
