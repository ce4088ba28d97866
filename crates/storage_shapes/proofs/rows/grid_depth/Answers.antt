use Rattle.std.proofs.Common.{◌≡◌, ◌^◌, ℤ, pos, sym, subst, arith}
use Rattle.std.specs.Int.{w128}
use Rattle.std.proofs.lemmas.Int.{ints, to_z-of_z, to_z_pos}
use Rattle.fixed_num.specs.Ranges.{IsBetween}
use Rattle.fixed_num.proofs.Bounds.{between_mul, within_between, fits64, fits128, fits_wider}
use Rattle.storage_shapes.specs.StoreTable.{grid_depth_of}
use Rattle.storage_shapes.proofs.GridLemmas.{grid_between}
use Rattle.storage_shapes.proofs.rows.grid_depth.Goals as goal
use Rattle.storage_shapes.proofs.rows.grid_depth.Goals.{After-quo}

place : (c : After-quo) → IsBetween (pos 0) (pos c.args.i) (pos 200)
place c = record { from = omega (arith, ints); to = omega (arith, ints) }

value : (c : After-quo) → c.quo.result ≡ grid_depth_of c.args.full c.args.i
unfolding grid_depth_of
value c =
    let product = between_mul (place c) c.requires.full in
    simp (
      to_z-of_z,
      to_z_pos w128 c.args.i (omega arith),
      c.ranges.full,
      fits_wider _ c.ranges.full,
      fits128 (within_between product) tt,
    ) at c.quo.ensures.value

range : (c : After-quo) → IsBetween (pos 0) c.quo.result (pos (10 ^ 9))
range c =
    subst (λ (z : ℤ). IsBetween (pos 0) z (pos (10 ^ 9))) (sym (value c))
    (grid_between c.requires.full c.args.i c.requires.place)

pub overflow_cast-result : goal.overflow_cast-result
overflow_cast-result c =
    let r = within_between (range (goal.at.overflow_cast-result c).After-quo) in
    simp (to_z-of_z, fits128 r tt) (fits64 r tt)

pub returns-clause-value : goal.returns-clause-value
returns-clause-value c =
    let b = (goal.at.returns-clause-value c).After-quo in
    let r = within_between (range b) in
    simp (to_z-of_z, fits128 r tt, fits64 r tt) (value b)

pub returns-clause-range : goal.returns-clause-range
returns-clause-range c =
    let b = (goal.at.returns-clause-range c).After-quo in
    let r = within_between (range b) in
    simp (to_z-of_z, fits128 r tt, fits64 r tt) (range b)
