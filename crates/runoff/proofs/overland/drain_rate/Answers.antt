use Rattle.std.proofs.Common.{◌≡◌, ◌^◌, pos}
use Rattle.std.proofs.lemmas.Int.{to_z-of_z}
use Rattle.fixed_num.specs.Ranges.{IsBetween, IsWithin}
use Rattle.fixed_num.proofs.Bounds.{within_between, within_mul, within_quo, fits64, fits128, fits_wider}
use Rattle.runoff.specs.Overland.{drain_rate_of}
use Rattle.runoff.proofs.OverlandLemmas.{drain_rate-between}
use Rattle.runoff.proofs.overland.drain_rate.Goals as goal
use Rattle.runoff.proofs.overland.drain_rate.Goals.{After-min}

value : (c : After-min) → c.min.result ≡ drain_rate_of c.args.breadth c.args.speed
unfolding drain_rate_of
value c =
    let product = within_mul (within_between c.requires.breadth) (within_between c.requires.speed) in
    let q = simp (
      to_z-of_z,
      c.ranges.breadth,
      fits_wider _ c.ranges.breadth,
      c.ranges.speed,
      fits_wider _ c.ranges.speed,
      fits128 product tt,
    ) at c.quo.ensures.value in
    let rate : IsWithin (10 ^ 25) c.quo.result = rw q (within_quo (pos 1_000_000_000) product) in
    let m = simp (to_z-of_z, fits128 rate tt) at c.min.ensures.value in
    cc (q, m)

small : (c : After-min) → IsBetween (pos 0) c.min.result (pos 100_000_000_000_000_000)
small c = rw (value c) (drain_rate-between c.requires.breadth c.requires.speed)

pub overflow_cast-result : goal.overflow_cast-result
overflow_cast-result c = let f = within_between (small c) in simp (to_z-of_z, fits128 f tt) (fits64 f tt)

pub returns-clause-value : goal.returns-clause-value
returns-clause-value c =
    let before = (goal.at.returns-clause-value c).After-min in
    let f = within_between (small before) in simp (to_z-of_z, fits128 f tt, fits64 f tt) (value before)

pub returns-clause-range : goal.returns-clause-range
returns-clause-range c =
    let before = (goal.at.returns-clause-range c).After-min in
    let f = within_between (small before) in simp (to_z-of_z, fits128 f tt, fits64 f tt) (small before)
