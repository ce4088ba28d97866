use Rattle.std.proofs.Common.{◌≡◌, ◌^◌, ◌*◌, pos, ap, ◌-ℤ◌, ◌*ℤ◌, ℤ, ◌∙◌, arith}
use Rattle.std.specs.Int.{int_min}
use Rattle.std.proofs.lemmas.Int.{ints, clamps, to_z-of_z}
use Rattle.fixed_num.specs.Ranges.{IsBetween}
use Rattle.fixed_num.specs.Rounding.{quo_of}
use Rattle.fixed_num.proofs.Bounds.{between_mul, between_number, between_quo_by, within_mul, within_number, within_between, fits64, fits128, fits_wider}
use Rattle.infiltration.specs.Horton.{dry_above_of}
use Rattle.infiltration.proofs.horton.HortonCurve.dry_above.Goals as goal
use Rattle.infiltration.proofs.horton.HortonCurve.dry_above.Goals.{After-quo-dried, After-min}

dried : (c : After-quo-dried) → c.quo-dried.result ≡ quo_of (pos 4 *ℤ c.args.above *ℤ c.args.ms) c.args.self.now.dry
dried c =
    let dry = within_between c.requires.curve.drying in
    let four = within_mul (within_number 4) (within_between c.requires.above) in
    let product = within_mul four (within_between c.requires.time) in
    simp (to_z-of_z, c.ranges.above, fits_wider _ c.ranges.above, c.ranges.ms, fits_wider _ c.ranges.ms, fits64 dry tt, fits128 dry tt, fits128 four tt, fits128 product tt) at c.quo-dried.ensures.value

dried-between : (c : After-quo-dried) → IsBetween (pos 0) c.quo-dried.result (pos (2 * 10 ^ 18))
dried-between c =
    let q = between_quo_by {y = c.args.self.now.dry} 86_400 (between_mul (between_mul (between_number (pos 4)) c.requires.above) c.requires.time) c.requires.curve.drying.from tt in
    record { from = omega (arith, ints, dried c, q.from); to = omega (arith, ints, dried c, q.to) }

least : (c : After-min) → IsBetween (pos 0) c.quo-dried.result (pos (2 * 10 ^ 18)) → c.min.result ≡ int_min c.args.above c.quo-dried.result
least c d = simp (to_z-of_z, c.ranges.above, fits_wider _ c.ranges.above, fits128 (within_between d) tt) at c.min.ensures.value

least-between : (c : After-min) → IsBetween (pos 0) c.quo-dried.result (pos (2 * 10 ^ 18)) → IsBetween (pos 0) c.min.result (pos (10 ^ 16))
least-between c d = record { from = omega (arith, ints, clamps, least c d, d.from, c.requires.above.from); to = omega (arith, ints, clamps, least c d, c.requires.above.to) }

rest-between : (c : After-min) → IsBetween (pos 0) c.quo-dried.result (pos (2 * 10 ^ 18)) → IsBetween (pos 0) (c.args.above -ℤ c.min.result) (pos (10 ^ 16))
rest-between c d = record { from = omega (arith, ints, clamps, least c d, d.from, c.requires.above.from); to = omega (arith, ints, clamps, least c d, d.from, c.requires.above.from, c.requires.above.to) }

pub overflow_cast-result : goal.overflow_cast-result
overflow_cast-result c =
    let f = within_between (least-between c (dried-between (goal.at.overflow_cast-result c).After-quo-dried)) in
    simp (to_z-of_z, fits128 f tt) (fits64 f tt)

pub overflow_sub-result : goal.overflow_sub-result
overflow_sub-result c =
    let d = dried-between (goal.at.overflow_sub-result c).After-quo-dried in
    let f = within_between (least-between c d) in
    simp (to_z-of_z, c.ranges.above, fits128 f tt, fits64 f tt) (fits64 (within_between (rest-between c d)) tt)

pub returns : goal.returns
unfolding dry_above_of
returns c =
    let before = (goal.at.returns c).After-quo-dried in
    let d = dried-between before in
    let e = dried before in
    let m = least c d in
    let f = within_between (least-between c d) in
    simp (to_z-of_z, c.ranges.above, fits128 f tt, fits64 f tt, fits64 (within_between (rest-between c d)) tt) (cc (e, m))
