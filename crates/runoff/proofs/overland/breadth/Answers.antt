use Rattle.std.proofs.Common.{◌≡◌, ◌^◌, pos}
use Rattle.std.proofs.lemmas.Int.{to_z-of_z}
use Rattle.fixed_num.specs.Ranges.{IsBetween}
use Rattle.fixed_num.proofs.Bounds.{within_between, within_mul, within_number, fits64, fits128, fits_wider}
use Rattle.runoff.specs.Overland.{breadth_of}
use Rattle.runoff.proofs.OverlandLemmas.{breadth-between}
use Rattle.runoff.proofs.overland.breadth.Goals as goal
use Rattle.runoff.proofs.overland.breadth.Goals.{After-quo}

value : (c : After-quo) → c.quo.result ≡ breadth_of c.args.width c.args.area
unfolding breadth_of
value c =
    let product = within_mul (within_between c.requires.width) (within_number 1_000_000_000) in
    simp (
      to_z-of_z,
      c.ranges.width,
      fits_wider _ c.ranges.width,
      c.ranges.area,
      fits_wider _ c.ranges.area,
      fits128 product tt,
    ) at c.quo.ensures.value

small : (c : After-quo) → IsBetween (pos 0) c.quo.result (pos 10_000_000_000_000)
small c = rw (value c) (breadth-between c.requires.width c.requires.area)

pub overflow_cast-result : goal.overflow_cast-result
overflow_cast-result c = let f = within_between (small c) in simp (to_z-of_z, fits128 f tt) (fits64 f tt)

pub returns-clause-value : goal.returns-clause-value
returns-clause-value c = let f = within_between (small c) in simp (to_z-of_z, fits128 f tt, fits64 f tt) (value c)

pub returns-clause-range : goal.returns-clause-range
returns-clause-range c = let f = within_between (small c) in simp (to_z-of_z, fits128 f tt, fits64 f tt) (small c)
