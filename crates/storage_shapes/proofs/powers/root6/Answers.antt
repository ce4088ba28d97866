use Rattle.std.proofs.Common.{◌≡◌, ◌^◌, pos}
use Rattle.std.proofs.lemmas.Int.{to_z-of_z}
use Rattle.fixed_num.specs.Ranges.{IsBetween}
use Rattle.fixed_num.proofs.Bounds.{within_between, within_mul, within_number, fits64, fits128, fits_wider}
use Rattle.storage_shapes.specs.ShapeArea.{root6_of}
use Rattle.storage_shapes.proofs.PowerLemmas.{root6-between}
use Rattle.storage_shapes.proofs.powers.root6.Goals as goal
use Rattle.storage_shapes.proofs.powers.root6.Goals.{After-root2}

value : (c : After-root2) → c.root2.result ≡ root6_of c.args.x
unfolding root6_of
value c =
    let p1 = within_mul (within_between c.requires) (within_number 1000000) in
    simp (to_z-of_z, c.ranges.x, fits_wider _ c.ranges.x, fits128 p1 tt) at c.root2.ensures.value

small : (c : After-root2) → IsBetween (pos 0) c.root2.result (pos 100_000_000)
small c = rw (value c) (root6-between c.requires)

pub overflow_cast-result : goal.overflow_cast-result
overflow_cast-result c =
    let f = within_between (small (goal.at.overflow_cast-result c).After-root2) in
    simp (to_z-of_z, fits128 f tt) (fits64 f tt)

pub returns-clause-value : goal.returns-clause-value
returns-clause-value c =
    let before = (goal.at.returns-clause-value c).After-root2 in
    let f = within_between (small before) in
    simp (to_z-of_z, fits128 f tt, fits64 f tt) (value before)

pub returns-clause-range : goal.returns-clause-range
returns-clause-range c =
    let before = (goal.at.returns-clause-range c).After-root2 in
    let f = within_between (small before) in
    simp (to_z-of_z, fits128 f tt, fits64 f tt) (small before)
