use Rattle.std.proofs.Common.{◌≡◌, ◌^◌, pos}
use Rattle.std.proofs.lemmas.Int.{to_z-of_z}
use Rattle.fixed_num.specs.Ranges.{IsBetween}
use Rattle.fixed_num.proofs.Bounds.{within_between, within_mul, within_number, fits64, fits128, fits_wider}
use Rattle.orifice_weir.specs.WeirFlow.{notch_of}
use Rattle.orifice_weir.proofs.FlowLemmas.{notch-between}
use Rattle.orifice_weir.proofs.weir.notch.Goals as goal
use Rattle.orifice_weir.proofs.weir.notch.Goals.{After-quo}

value : (c : After-quo) → c.quo.result ≡ notch_of c.args.slope c.args.head c.args.power
unfolding notch_of
value c =
    let p1 = within_mul (within_between c.requires.slope) (within_between c.requires.head) in
    let p2 = within_mul p1 (within_between c.requires.power) in
    simp (
      to_z-of_z,
      c.ranges.slope,
      fits_wider _ c.ranges.slope,
      c.ranges.head,
      fits_wider _ c.ranges.head,
      c.ranges.power,
      fits_wider _ c.ranges.power,
      fits128 p1 tt,
      fits128 p2 tt,
    ) at c.quo.ensures.value

small : (c : After-quo) → IsBetween (pos 0) c.quo.result (pos (10 ^ 24))
small c = rw (value c) (notch-between c.requires.slope c.requires.head c.requires.power)

pub overflow_mul-slope-2 : goal.overflow_mul-slope-2
overflow_mul-slope-2 c =
    let p1 = within_mul (within_between c.requires.slope) (within_between c.requires.head) in
    let p2 = within_mul p1 (within_between c.requires.power) in
    simp (
      to_z-of_z,
      c.ranges.slope,
      fits_wider _ c.ranges.slope,
      c.ranges.head,
      fits_wider _ c.ranges.head,
      c.ranges.power,
      fits_wider _ c.ranges.power,
      fits128 p1 tt,
    ) (fits128 p2 tt)

pub returns-clause-value : goal.returns-clause-value
returns-clause-value c =
    let before = (goal.at.returns-clause-value c).After-quo in
    let f = within_between (small before) in
    simp (to_z-of_z, fits128 f tt) (value before)

pub returns-clause-range : goal.returns-clause-range
returns-clause-range c =
    let before = (goal.at.returns-clause-range c).After-quo in
    let f = within_between (small before) in
    simp (to_z-of_z, fits128 f tt) (small before)
