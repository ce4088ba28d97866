use Rattle.std.proofs.Common.{◌≡◌, ◌^◌, pos}
use Rattle.std.proofs.lemmas.Int.{to_z-of_z}
use Rattle.fixed_num.specs.Ranges.{IsBetween}
use Rattle.fixed_num.proofs.Bounds.{within_between, within_mul, within_number, fits64, fits128, fits_wider}
use Rattle.orifice_weir.specs.WeirFlow.{side_slope_of}
use Rattle.orifice_weir.proofs.FlowLemmas.{side_slope-between}
use Rattle.orifice_weir.proofs.weir.side_slope.Goals as goal
use Rattle.orifice_weir.proofs.weir.side_slope.Goals.{After-quo}

value : (c : After-quo) → c.quo.result ≡ side_slope_of c.args.width c.args.full
unfolding side_slope_of
value c =
    let p1 = within_mul (within_between c.requires.width) (within_number 1000000) in
    let double = within_mul (within_number 2) (within_between c.requires.full) in
    simp (
      to_z-of_z,
      c.ranges.width,
      fits_wider _ c.ranges.width,
      c.ranges.full,
      fits_wider _ c.ranges.full,
      fits128 double tt,
      fits128 p1 tt,
    ) at c.quo.ensures.value

small : (c : After-quo) → IsBetween (pos 0) c.quo.result (pos 5_000_000_000_000)
small c = rw (value c) (side_slope-between c.requires.width c.requires.full)

pub overflow_cast-result : goal.overflow_cast-result
overflow_cast-result c =
    let f = within_between (small (goal.at.overflow_cast-result c).After-quo) in
    simp (to_z-of_z, fits128 f tt) (fits64 f tt)

pub returns-clause-value : goal.returns-clause-value
returns-clause-value c =
    let before = (goal.at.returns-clause-value c).After-quo in
    let f = within_between (small before) in
    simp (to_z-of_z, fits128 f tt, fits64 f tt) (value before)

pub returns-clause-range : goal.returns-clause-range
returns-clause-range c =
    let before = (goal.at.returns-clause-range c).After-quo in
    let f = within_between (small before) in
    simp (to_z-of_z, fits128 f tt, fits64 f tt) (small before)
