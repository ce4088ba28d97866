use Rattle.std.proofs.Common.{◌≡◌, ◌^◌, pos}
use Rattle.std.proofs.lemmas.Int.{to_z-of_z}
use Rattle.fixed_num.specs.Ranges.{IsBetween, IsWithin}
use Rattle.fixed_num.proofs.Bounds.{within_between, within_mul, within_number, fits128, fits_wider}
use Rattle.runoff.specs.Overland.{two_thirds_of}
use Rattle.runoff.proofs.OverlandLemmas.{two_thirds-between}
use Rattle.runoff.proofs.overland.two_thirds.Goals as goal
use Rattle.runoff.proofs.overland.two_thirds.Goals.{After-root3}

value : (c : After-root3) → c.root3.result ≡ two_thirds_of c.args.sheet
unfolding two_thirds_of
value c =
    let square = within_mul (within_between c.requires) (within_between c.requires) in
    let cube = within_mul square (within_number 1_000_000_000) in
    simp (
      to_z-of_z,
      c.ranges.sheet,
      fits_wider _ c.ranges.sheet,
      fits128 square tt,
      fits128 cube tt,
    ) at c.root3.ensures.value

pub returns-clause-value : goal.returns-clause-value
returns-clause-value c =
    let before = (goal.at.returns-clause-value c).After-root3 in
    let e = value before in
    let f : IsWithin 4_700_000_000 c.root3.result = rw e (within_between (two_thirds-between c.requires)) in
    simp (to_z-of_z, fits128 f tt) e

pub returns-clause-range : goal.returns-clause-range
returns-clause-range c =
    let before = (goal.at.returns-clause-range c).After-root3 in
    let e = value before in
    let f : IsWithin 4_700_000_000 c.root3.result = rw e (within_between (two_thirds-between c.requires)) in
    let small : IsBetween (pos 0) c.root3.result (pos 4_700_000_000) = rw e (two_thirds-between c.requires) in
    simp (to_z-of_z, fits128 f tt) small
