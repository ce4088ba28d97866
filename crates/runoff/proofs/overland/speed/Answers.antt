use Rattle.std.proofs.Common.{◌≡◌, ◌*◌, ◌^◌, pos, ◌<ℤ◌, arith}
use Rattle.std.proofs.lemmas.Int.{ints, to_z-of_z}
use Rattle.fixed_num.specs.Ranges.{IsBetween, IsWithin}
use Rattle.fixed_num.proofs.Bounds.{within_between, within_mul, within_quo, fits64, fits128, fits_wider}
use Rattle.runoff.specs.Overland.{speed_of}
use Rattle.runoff.proofs.OverlandLemmas.{speed-between}
use Rattle.runoff.proofs.overland.speed.Goals as goal
use Rattle.runoff.proofs.overland.speed.Goals.{After-min}

value : (c : After-min) → c.min.result ≡ speed_of c.args.slope_root c.args.n6 c.args.sheet
unfolding speed_of
value c =
    let p = within_between c.two_thirds.ensures.range in
    let e = simp (to_z-of_z, c.ranges.sheet) at c.two_thirds.ensures.value in
    let product = within_mul (within_between c.requires.slope) p in
    let q = simp (
      to_z-of_z,
      c.ranges.slope_root,
      fits_wider _ c.ranges.slope_root,
      fits128 p tt,
      c.ranges.n6,
      fits_wider _ c.ranges.n6,
      fits128 product tt,
    ) at c.quo.ensures.value in
    let speed : IsWithin (1_000_000 * 4_700_000_000) c.quo.result = rw q (within_quo c.args.n6 product) in
    let m = simp (to_z-of_z, fits128 speed tt) at c.min.ensures.value in
    cc (e, q, m)

small : (c : After-min) → IsBetween (pos 0) c.min.result (pos 1_000_000_000_000)
small c = rw (value c) (speed-between c.args.n6 c.requires.slope c.requires.sheet)

pub overflow_cast-result : goal.overflow_cast-result
overflow_cast-result c = let f = within_between (small c) in simp (to_z-of_z, fits128 f tt) (fits64 f tt)

pub returns-clause-value : goal.returns-clause-value
returns-clause-value c =
    let before = (goal.at.returns-clause-value c).After-min in
    let f = within_between (small before) in
    simp (to_z-of_z, fits128 f tt, fits64 f tt) (value before)

pub returns-clause-range : goal.returns-clause-range
returns-clause-range c =
    let before = (goal.at.returns-clause-range c).After-min in
    let f = within_between (small before) in
    simp (to_z-of_z, fits128 f tt, fits64 f tt) (small before)
