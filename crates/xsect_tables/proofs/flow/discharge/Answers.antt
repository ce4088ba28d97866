use Rattle.std.proofs.Common.{◌≡◌, ◌^◌, pos}
use Rattle.std.proofs.lemmas.Int.{to_z-of_z}
use Rattle.fixed_num.specs.Ranges.{IsBetween}
use Rattle.fixed_num.proofs.Bounds.{within_between, within_mul, fits128, fits_wider}
use Rattle.xsect_tables.specs.NormalFlow.{discharge_of}
use Rattle.xsect_tables.proofs.FlowLemmas.{discharge-between}
use Rattle.xsect_tables.proofs.flow.discharge.Goals as goal
use Rattle.xsect_tables.proofs.flow.discharge.Goals.{After-quo}

value : (c : After-quo) → c.quo.result ≡ discharge_of c.args.speed c.args.area
unfolding discharge_of
value c =
    let product = within_mul (within_between c.requires.speed) (within_between c.requires.area) in
    simp (to_z-of_z, c.ranges.speed, fits_wider _ c.ranges.speed, c.ranges.area, fits_wider _ c.ranges.area, fits128 product tt) at c.quo.ensures.value

range : (c : After-quo) → IsBetween (pos 0) c.quo.result (pos (10 ^ 31))
range c = rw (value c) (discharge-between c.requires.speed c.requires.area)

pub returns-clause-value : goal.returns-clause-value
returns-clause-value c = simp (to_z-of_z, fits128 (within_between (range c)) tt) (value c)

pub returns-clause-range : goal.returns-clause-range
returns-clause-range c = simp (to_z-of_z, fits128 (within_between (range c)) tt) (range c)
