use Rattle.std.proofs.Common.{◌≡◌, ◌*◌, ◌^◌, pos, ◌*ℤ◌}
use Rattle.std.proofs.lemmas.Int.{to_z-of_z}
use Rattle.fixed_num.specs.Ranges.{IsBetween, IsWithin}
use Rattle.fixed_num.specs.Rounding.{quo_of}
use Rattle.fixed_num.proofs.Bounds.{within_add, within_between, within_mul, within_up, fits64, fits128, fits_wider}
use Rattle.storage_shapes.specs.ShapeArea.{functional_of}
use Rattle.storage_shapes.proofs.AreaLemmas.{scaled-between}
use Rattle.storage_shapes.proofs.shapes.functional.Goals as goal
use Rattle.storage_shapes.proofs.shapes.functional.Goals.{After-quo}

value : (c : After-quo) → c.quo.result ≡ quo_of (c.args.a1 *ℤ c.power.result) (pos 1_000_000)
value c =
    let power = within_between c.power.ensures.range in
    let p = within_mul (within_between c.requires.a1) power in
    simp (
      to_z-of_z,
      c.ranges.a1,
      fits_wider _ c.ranges.a1,
      fits64 power tt,
      fits128 power tt,
      fits128 p tt,
    ) at c.quo.ensures.value

small : (c : After-quo) → IsBetween (pos 0) c.quo.result (pos (10 ^ 27))
small c = rw (value c) (scaled-between c.requires.a1 c.power.ensures.range)

pub returns-clause-value : goal.returns-clause-value
unfolding functional_of
returns-clause-value c =
    let before = (goal.at.returns-clause-value c).After-quo in
    let q = within_between (small before) in
    let v = value before in
    let p = simp (to_z-of_z, c.ranges.x) at c.power.ensures.value in
    let sum = within_add q (within_between c.requires.a0) in
    simp (to_z-of_z, fits128 q tt, c.ranges.a0, fits_wider _ c.ranges.a0, fits128 sum tt) (cc (v, p))

pub returns-clause-range : goal.returns-clause-range
returns-clause-range c =
    let before = (goal.at.returns-clause-range c).After-quo in
    let q = within_between (small before) in
    let sum = within_add q (within_between c.requires.a0) in
    simp (to_z-of_z, fits128 q tt, c.ranges.a0, fits_wider _ c.ranges.a0, fits128 sum tt) (within_up sum tt)

pub overflow_add-result : goal.overflow_add-result
overflow_add-result c =
    let before = (goal.at.overflow_add-result c).After-quo in
    let q = within_between (small before) in
    let sum = within_add q (within_between c.requires.a0) in
    simp (to_z-of_z, fits128 q tt, c.ranges.a0, fits_wider _ c.ranges.a0) (fits128 sum tt)
