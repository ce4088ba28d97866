use Rattle.std.proofs.Common.{◌≡◌, ◌^◌, pos}
use Rattle.std.proofs.lemmas.Int.{to_z-of_z}
use Rattle.fixed_num.specs.Ranges.{IsBetween}
use Rattle.fixed_num.proofs.Bounds.{within_between, within_mul, within_number, fits64, fits128, fits_wider}
use Rattle.orifice_weir.specs.OrificeFlow.{discharge_of}
use Rattle.orifice_weir.proofs.FlowLemmas.{discharge-between}
use Rattle.orifice_weir.proofs.orifice.discharge.Goals as goal
use Rattle.orifice_weir.proofs.orifice.discharge.Goals.{After-quo}

value : (c : After-quo) → c.quo.result ≡ discharge_of c.args.area c.args.speed
unfolding discharge_of
value c =
    let p1 = within_mul (within_between c.requires.area) (within_between c.requires.speed) in
    simp (
      to_z-of_z,
      c.ranges.area,
      fits_wider _ c.ranges.area,
      c.ranges.speed,
      fits_wider _ c.ranges.speed,
      fits128 p1 tt,
    ) at c.quo.ensures.value

small : (c : After-quo) → IsBetween (pos 0) c.quo.result (pos (10 ^ 30))
small c = rw (value c) (discharge-between c.requires.area c.requires.speed)

pub returns-clause-value : goal.returns-clause-value
returns-clause-value c =
    let before = (goal.at.returns-clause-value c).After-quo in
    let f = within_between (small before) in
    simp (to_z-of_z, fits128 f tt) (value before)

pub returns-clause-range : goal.returns-clause-range
returns-clause-range c =
    let before = (goal.at.returns-clause-range c).After-quo in
    let f = within_between (small before) in
    simp (to_z-of_z, fits128 f tt) (small before)
