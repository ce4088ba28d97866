use Rattle.std.proofs.Common.{◌≡◌, ◌^◌, pos}
use Rattle.std.proofs.lemmas.Int.{to_z-of_z}
use Rattle.fixed_num.specs.Ranges.{IsBetween}
use Rattle.fixed_num.proofs.Bounds.{within_between, within_mul, within_number, fits64, fits128, fits_wider}
use Rattle.orifice_weir.specs.Heads.{part_of}
use Rattle.orifice_weir.proofs.FlowLemmas.{part-between}
use Rattle.orifice_weir.proofs.heads.part.Goals as goal
use Rattle.orifice_weir.proofs.heads.part.Goals.{After-quo}

value : (c : After-quo) → c.quo.result ≡ part_of c.args.height c.args.part6
unfolding part_of
value c =
    let p1 = within_mul (within_between c.requires.height) (within_between c.requires.part6) in
    simp (
      to_z-of_z,
      c.ranges.height,
      fits_wider _ c.ranges.height,
      c.ranges.part6,
      fits_wider _ c.ranges.part6,
      fits128 p1 tt,
    ) at c.quo.ensures.value

small : (c : After-quo) → IsBetween (pos 0) c.quo.result (pos 1_000_000_000)
small c = rw (value c) (part-between c.requires.height c.requires.part6)

pub overflow_cast-result : goal.overflow_cast-result
overflow_cast-result c =
    let f = within_between (small (goal.at.overflow_cast-result c).After-quo) in
    simp (to_z-of_z, fits128 f tt) (fits64 f tt)

pub returns-clause-value : goal.returns-clause-value
returns-clause-value c =
    let before = (goal.at.returns-clause-value c).After-quo in
    let f = within_between (small before) in
    simp (to_z-of_z, fits128 f tt, fits64 f tt) (value before)

pub returns-clause-range : goal.returns-clause-range
returns-clause-range c =
    let before = (goal.at.returns-clause-range c).After-quo in
    let f = within_between (small before) in
    simp (to_z-of_z, fits128 f tt, fits64 f tt) (small before)
