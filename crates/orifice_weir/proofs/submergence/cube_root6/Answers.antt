use Rattle.std.proofs.Common.{◌≡◌, ◌^◌, pos}
use Rattle.std.proofs.lemmas.Int.{to_z-of_z}
use Rattle.fixed_num.specs.Ranges.{IsBetween}
use Rattle.fixed_num.proofs.Bounds.{within_between, within_mul, within_number, fits64, fits128, fits_wider}
use Rattle.orifice_weir.specs.Submergence.{cube_root6_of}
use Rattle.orifice_weir.proofs.SubmergenceLemmas.{cube-from, cube_root6-between}
use Rattle.orifice_weir.proofs.submergence.cube_root6.Goals as goal
use Rattle.orifice_weir.proofs.submergence.cube_root6.Goals.{After-root2}

value : (c : After-root2) → c.root2.result ≡ cube_root6_of c.args.x
unfolding cube_root6_of
value c =
    let p1 = within_mul (within_between c.requires) (within_between c.requires) in
    let p2 = within_mul p1 (within_between c.requires) in
    simp (to_z-of_z, c.ranges.x, fits_wider _ c.ranges.x, fits128 p1 tt, fits128 p2 tt) at c.root2.ensures.value

small : (c : After-root2) → IsBetween (pos 0) c.root2.result (pos 1_000_000_000)
small c = rw (value c) (cube_root6-between c.requires)

pub overflow_mul-x-2 : goal.overflow_mul-x-2
overflow_mul-x-2 c =
    let p1 = within_mul (within_between c.requires) (within_between c.requires) in
    let p2 = within_mul p1 (within_between c.requires) in
    simp (to_z-of_z, c.ranges.x, fits_wider _ c.ranges.x, fits128 p1 tt) (fits128 p2 tt)

pub overflow_cast-result : goal.overflow_cast-result
overflow_cast-result c =
    let f = within_between (small (goal.at.overflow_cast-result c).After-root2) in
    simp (to_z-of_z, fits128 f tt) (fits64 f tt)

pub returns-clause-value : goal.returns-clause-value
returns-clause-value c =
    let before = (goal.at.returns-clause-value c).After-root2 in
    let f = within_between (small before) in
    simp (to_z-of_z, fits128 f tt, fits64 f tt) (value before)

pub returns-clause-range : goal.returns-clause-range
returns-clause-range c =
    let before = (goal.at.returns-clause-range c).After-root2 in
    let f = within_between (small before) in
    simp (to_z-of_z, fits128 f tt, fits64 f tt) (small before)

pub root2-requires : goal.root2-requires
root2-requires c =
    let p1 = within_mul (within_between c.requires) (within_between c.requires) in
    let p2 = within_mul p1 (within_between c.requires) in
    simp (to_z-of_z, c.ranges.x, fits_wider _ c.ranges.x, fits128 p1 tt, fits128 p2 tt) (cube-from c.requires)
