use Rattle.std.proofs.Common.{◌≡◌, ◌*◌, ◌^◌, pos, ◌+ℤ◌, ◌*ℤ◌}
use Rattle.std.proofs.lemmas.Int.{to_z-of_z}
use Rattle.fixed_num.specs.Ranges.{IsBetween}
use Rattle.fixed_num.specs.Rounding.{quo_of}
use Rattle.fixed_num.proofs.Bounds.{within_add, within_mul, within_between, fits64, fits128, fits_wider}
use Rattle.conduit_flow.specs.Geometry.{end_area_of}
use Rattle.conduit_flow.proofs.RangeLemmas.{half-between, end_area-between}
use Rattle.conduit_flow.proofs.geometry.wide_end_area.Goals as goal
use Rattle.conduit_flow.proofs.geometry.wide_end_area.Goals.{After-quo-one, After-min}

half : (c : After-quo-one) → c.quo-one.result ≡ quo_of ((c.args.width +ℤ c.args.middle_width) *ℤ c.args.length) (pos 4_000_000)
half c =
    let both = within_add (within_between c.requires.width) (within_between c.requires.middle) in
    let product = within_mul both (within_between c.requires.length) in
    simp (to_z-of_z, c.ranges.width, fits_wider _ c.ranges.width, c.ranges.middle_width, fits_wider _ c.ranges.middle_width, c.ranges.length, fits_wider _ c.ranges.length, fits128 both tt, fits128 product tt) at c.quo-one.ensures.value

small : (c : After-quo-one) → IsBetween (pos 0) c.quo-one.result (pos (10 ^ 23))
small c = rw (half c) (half-between c.requires.width c.requires.middle c.requires.length)

pub overflow_mul-barrels : goal.overflow_mul-barrels
overflow_mul-barrels c =
    let one = within_between (small c) in
    simp (to_z-of_z, c.ranges.barrels, fits_wider _ c.ranges.barrels, fits128 one tt) (fits128 (within_mul (within_between c.requires.barrels) one) tt)

value : (c : After-min) → c.quo-one.result ≡ quo_of ((c.args.width +ℤ c.args.middle_width) *ℤ c.args.length) (pos 4_000_000) → IsBetween (pos 0) c.quo-one.result (pos (10 ^ 23)) → c.min.result ≡ end_area_of c.args.width c.args.middle_width c.args.length c.args.barrels
unfolding end_area_of
value c e s =
    let one = within_between s in
    let least = simp (to_z-of_z, c.ranges.barrels, fits_wider _ c.ranges.barrels, fits128 one tt, fits128 (within_mul (within_between c.requires.barrels) one) tt) at c.min.ensures.value in
    cc (e, least)

range : (c : After-min) → c.min.result ≡ end_area_of c.args.width c.args.middle_width c.args.length c.args.barrels → IsBetween (pos 0) c.min.result (pos (5 * 10 ^ 12))
range c v = rw v (end_area-between c.requires.width c.requires.middle c.requires.length c.requires.barrels)

pub overflow_cast-result : goal.overflow_cast-result
overflow_cast-result c =
    let v = value c (half (goal.at.overflow_cast-result c).After-quo-one) (small (goal.at.overflow_cast-result c).After-quo-one) in
    let r = within_between (range c v) in
    simp (to_z-of_z, fits128 r tt) (fits64 r tt)

pub returns-clause-value : goal.returns-clause-value
returns-clause-value c =
    let v = value c (half (goal.at.returns-clause-value c).After-quo-one) (small (goal.at.returns-clause-value c).After-quo-one) in
    let r = within_between (range c v) in
    simp (to_z-of_z, fits128 r tt, fits64 r tt) v

pub returns-clause-range : goal.returns-clause-range
returns-clause-range c =
    let v = value c (half (goal.at.returns-clause-range c).After-quo-one) (small (goal.at.returns-clause-range c).After-quo-one) in
    let r = within_between (range c v) in
    simp (to_z-of_z, fits128 r tt, fits64 r tt) (range c v)
