use Rattle.std.proofs.Common.{◌≡◌, ◌+◌, ◌^◌, pos, ◌-ℤ◌, ◌≤ℤ◌, arith}
use Rattle.std.proofs.lemmas.Int.{ints, to_z-of_z}
use Rattle.fixed_num.specs.Ranges.{IsBetween}
use Rattle.fixed_num.proofs.Bounds.{within_between, within_sub, fits64}
use Rattle.storage_shapes.proofs.GridLemmas.{grid_order}
use Rattle.storage_shapes.proofs.rows.strip_height.Goals as goal

pub returns-clause-value : goal.returns-clause-value
returns-clause-value c =
    let high = within_between c.grid_depth.ensures.range in
    let low = within_between c.grid_depth-2.ensures.range in
    let h = simp (to_z-of_z, c.ranges.full) at c.grid_depth.ensures.value in
    let l = simp (to_z-of_z, c.ranges.full) at c.grid_depth-2.ensures.value in
    simp (to_z-of_z, fits64 high tt, fits64 low tt, fits64 (within_sub high low) tt) (rw (h, l))

pub returns-clause-range : goal.returns-clause-range
returns-clause-range c =
    let high = c.grid_depth.ensures.range in
    let low = c.grid_depth-2.ensures.range in
    let h = simp (to_z-of_z, c.ranges.full) at c.grid_depth.ensures.value in
    let l = simp (to_z-of_z, c.ranges.full) at c.grid_depth-2.ensures.value in
    let order = grid_order c.requires.full c.args.i (c.args.i + 1) (omega arith) in
    let rises : c.grid_depth-2.result ≤ℤ c.grid_depth.result = rw (h, l) order in
    let range : IsBetween (pos 0) (c.grid_depth.result -ℤ c.grid_depth-2.result) (pos (10 ^ 9)) =
    record { from = omega (arith, ints, rises); to = omega (arith, ints, high.to, low.from) } in
    simp (
      to_z-of_z,
      fits64 (within_between high) tt,
      fits64 (within_between low) tt,
      fits64 (within_sub (within_between high) (within_between low)) tt,
    ) range
