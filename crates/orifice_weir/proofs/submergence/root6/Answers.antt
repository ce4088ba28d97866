use Rattle.std.proofs.Common.{◌≡◌, ◌^◌, pos, ◌≤ℤ◌}
use Rattle.std.proofs.lemmas.Int.{to_z-of_z}
use Rattle.fixed_num.specs.Ranges.{IsBetween}
use Rattle.fixed_num.proofs.Bounds.{within_between, within_mul, within_number, fits64, fits128, fits_wider}
use Rattle.orifice_weir.specs.Submergence.{root6_of}
use Rattle.orifice_weir.proofs.SubmergenceLemmas.{root6-between, root6-part}
use Rattle.orifice_weir.proofs.submergence.root6.Goals as goal
use Rattle.orifice_weir.proofs.submergence.root6.Goals.{After-root2}

value : (c : After-root2) → c.root2.result ≡ root6_of c.args.x
unfolding root6_of
value c =
    let p1 = within_mul (within_between c.requires) (within_number 1000000) in
    simp (to_z-of_z, c.ranges.x, fits_wider _ c.ranges.x, fits128 p1 tt) at c.root2.ensures.value

small : (c : After-root2) → IsBetween (pos 0) c.root2.result (pos 31_622_776)
small c = rw (value c) (root6-between c.requires)

pub overflow_cast-result : goal.overflow_cast-result
overflow_cast-result c =
    let f = within_between (small (goal.at.overflow_cast-result c).After-root2) in
    simp (to_z-of_z, fits128 f tt) (fits64 f tt)

pub returns-clause-value : goal.returns-clause-value
returns-clause-value c =
    let before = (goal.at.returns-clause-value c).After-root2 in
    let f = within_between (small before) in
    simp (to_z-of_z, fits128 f tt, fits64 f tt) (value before)

pub returns-clause-range : goal.returns-clause-range
returns-clause-range c =
    let before = (goal.at.returns-clause-range c).After-root2 in
    let f = within_between (small before) in
    simp (to_z-of_z, fits128 f tt, fits64 f tt) (small before)

least : (c : After-root2) → c.args.x ≤ℤ pos 1_000_000 → c.root2.result ≤ℤ pos 1_000_000
least c h =
    let part : IsBetween (pos 0) c.root2.result (pos 1_000_000) =
    rw (value c) (root6-part (record { from = c.requires.from; to = h })) in
    part.to

pub returns-clause-small : goal.returns-clause-small
returns-clause-small c =
    let before = (goal.at.returns-clause-small c).After-root2 in
    let f = within_between (small before) in
    simp (to_z-of_z, fits128 f tt, fits64 f tt) (least before)
