use Rattle.std.proofs.Common.{◌≡◌, ◌*◌, ◌^◌, pos, arith}
use Rattle.std.proofs.lemmas.Int.{ints, to_z-of_z}
use Rattle.fixed_num.specs.Ranges.{IsBetween}
use Rattle.fixed_num.proofs.Bounds.{within_between, within_mul, within_number, fits64, fits128, fits_wider}
use Rattle.storage_shapes.specs.ShapeArea.{user_depth_of}
use Rattle.storage_shapes.proofs.AreaLemmas.{user_depth-between, within_nat}
use Rattle.storage_shapes.proofs.shapes.user_depth.Goals as goal
use Rattle.storage_shapes.proofs.shapes.user_depth.Goals.{After-quo}

value : (c : After-quo) → c.quo.result ≡ user_depth_of c.args.unit.now c.args.depth
unfolding user_depth_of
value c =
    let den = within_nat 1 c.args.unit.now.den (omega (arith, c.requires.whole)) in
    let num = within_nat (10 ^ 11) c.args.unit.now.num c.requires.unit.num_at_most in
    let p1 = within_mul (within_between c.requires.depth) den in
    let p2 = within_mul p1 (within_number 1_000_000) in
    simp (
      to_z-of_z,
      c.ranges.depth,
      fits_wider _ c.ranges.depth,
      fits128 den tt,
      fits128 num tt,
      fits128 p1 tt,
      fits128 p2 tt,
    ) at c.quo.ensures.value

small : (c : After-quo) → IsBetween (pos 0) c.quo.result (pos 10_000_000_000)
small c = rw (value c) (user_depth-between c.args.unit.now c.requires.whole c.requires.least c.requires.depth)

pub overflow_cast-result : goal.overflow_cast-result
overflow_cast-result c =
    let f = within_between (small (goal.at.overflow_cast-result c).After-quo) in
    simp (to_z-of_z, fits128 f tt) (fits64 f tt)

pub returns-clause-value : goal.returns-clause-value
returns-clause-value c =
    let before = (goal.at.returns-clause-value c).After-quo in
    let f = within_between (small before) in
    simp (to_z-of_z, fits128 f tt, fits64 f tt) (value before)

pub returns-clause-range : goal.returns-clause-range
returns-clause-range c =
    let before = (goal.at.returns-clause-range c).After-quo in
    let f = within_between (small before) in
    simp (to_z-of_z, fits128 f tt, fits64 f tt) (small before)
