use Rattle.std.proofs.Common.{◌≡◌, ◌^◌, pos}
use Rattle.std.proofs.lemmas.Int.{to_z-of_z}
use Rattle.fixed_num.specs.Ranges.{IsBetween}
use Rattle.fixed_num.proofs.Bounds.{within_between, within_mul, within_number, fits64, fits128, fits_wider}
use Rattle.orifice_weir.specs.Submergence.{head_ratio_of}
use Rattle.orifice_weir.proofs.SubmergenceLemmas.{head_ratio-between, within_low}
use Rattle.orifice_weir.proofs.submergence.head_ratio.Goals as goal
use Rattle.orifice_weir.proofs.submergence.head_ratio.Goals.{After-quo}

value : (c : After-quo) → c.quo.result ≡ head_ratio_of c.args.low c.args.high
unfolding head_ratio_of
value c =
    let low = within_low c.requires.low (within_between c.requires.high) in
    let p1 = within_mul low (within_number 1000000) in
    simp (
      to_z-of_z,
      c.ranges.low,
      fits_wider _ c.ranges.low,
      c.ranges.high,
      fits_wider _ c.ranges.high,
      fits128 p1 tt,
    ) at c.quo.ensures.value

small : (c : After-quo) → IsBetween (pos 0) c.quo.result (pos 1_000_000)
small c = rw (value c) (head_ratio-between c.requires.low c.requires.high)

pub overflow_cast-result : goal.overflow_cast-result
overflow_cast-result c =
    let f = within_between (small (goal.at.overflow_cast-result c).After-quo) in
    simp (to_z-of_z, fits128 f tt) (fits64 f tt)

pub returns-clause-value : goal.returns-clause-value
returns-clause-value c =
    let before = (goal.at.returns-clause-value c).After-quo in
    let f = within_between (small before) in
    simp (to_z-of_z, fits128 f tt, fits64 f tt) (value before)

pub returns-clause-range : goal.returns-clause-range
returns-clause-range c =
    let before = (goal.at.returns-clause-range c).After-quo in
    let f = within_between (small before) in
    simp (to_z-of_z, fits128 f tt, fits64 f tt) (small before)
