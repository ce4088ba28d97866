use Rattle.std.proofs.Common.{◌≡◌, ◌^◌, pos}
use Rattle.std.proofs.lemmas.Int.{to_z-of_z}
use Rattle.fixed_num.specs.Ranges.{IsBetween}
use Rattle.fixed_num.proofs.Bounds.{within_between, within_mul, fits128, fits_wider}
use Rattle.runoff.specs.Overland.{drained_of}
use Rattle.runoff.proofs.OverlandLemmas.{drained-between}
use Rattle.runoff.proofs.overland.drained.Goals as goal
use Rattle.runoff.proofs.overland.drained.Goals.{After-quo}

value : (c : After-quo) → c.quo.result ≡ drained_of c.args.rate c.args.ms c.args.sheet
unfolding drained_of
value c =
    let part = within_mul (within_between c.requires.rate) (within_between c.requires.time) in
    let product = within_mul part (within_between c.requires.sheet) in
    simp (
      to_z-of_z,
      c.ranges.rate,
      fits_wider _ c.ranges.rate,
      c.ranges.ms,
      fits_wider _ c.ranges.ms,
      c.ranges.sheet,
      fits_wider _ c.ranges.sheet,
      fits128 part tt,
      fits128 product tt,
    ) at c.quo.ensures.value

small : (c : After-quo) → IsBetween (pos 0) c.quo.result (pos 1_000_000_000_000_000_000_000)
small c = rw (value c) (drained-between c.requires.rate c.requires.time c.requires.sheet)

pub overflow_mul-rate-2 : goal.overflow_mul-rate-2
overflow_mul-rate-2 c =
    let part = within_mul (within_between c.requires.rate) (within_between c.requires.time) in
    let product = within_mul part (within_between c.requires.sheet) in
    simp (
      to_z-of_z,
      c.ranges.rate,
      fits_wider _ c.ranges.rate,
      c.ranges.ms,
      fits_wider _ c.ranges.ms,
      c.ranges.sheet,
      fits_wider _ c.ranges.sheet,
      fits128 part tt,
    ) (fits128 product tt)

pub returns-clause-value : goal.returns-clause-value
returns-clause-value c =
    let before = (goal.at.returns-clause-value c).After-quo in
    simp (to_z-of_z, fits128 (within_between (small before)) tt) (value before)

pub returns-clause-range : goal.returns-clause-range
returns-clause-range c =
    let before = (goal.at.returns-clause-range c).After-quo in
    simp (to_z-of_z, fits128 (within_between (small before)) tt) (small before)
