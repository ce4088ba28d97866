use Rattle.std.proofs.Common.{◌≡◌, ◌+◌, ◌*◌, ◌^◌, pos, ◌+ℤ◌, ◌-ℤ◌, ◌*ℤ◌, arith}
use Rattle.std.proofs.lemmas.Int.{ints, to_z-of_z}
use Rattle.fixed_num.specs.Interpolation.{lerp_of}
use Rattle.fixed_num.specs.Ranges.{IsBetween, IsWithin}
use Rattle.fixed_num.specs.Rounding.{quo_of}
use Rattle.fixed_num.proofs.Bounds.{between_lerp, within_add, within_between, within_mul, within_quo, within_sub, within_up}
use Rattle.fixed_num.proofs.Bounds.{fits128, fits_wider}
use Rattle.storage_shapes.proofs.StripLemmas.{part-within}
use Rattle.storage_shapes.proofs.table.line.Goals as goal
use Rattle.storage_shapes.proofs.table.line.Goals.{After-quo}

pub overflow_mul-v1 : goal.overflow_mul-v1
overflow_mul-v1 c =
    let part = part-within c.requires.x0 c.requires.x1 c.requires.x in
    let v0 = within_between c.requires.v0 in
    let v1 = within_between c.requires.v1 in
    let rise = within_sub v1 v0 in
    simp (
      to_z-of_z,
      c.ranges.x,
      fits_wider _ c.ranges.x,
      c.ranges.x0,
      fits_wider _ c.ranges.x0,
      fits128 v0 tt,
      fits128 v1 tt,
      fits128 part tt,
      fits128 rise tt,
    ) (fits128 (within_mul rise part) tt)

quotient : (c : After-quo)
    → c.quo.result ≡ quo_of ((c.args.v1 -ℤ c.args.v0) *ℤ (c.args.x -ℤ c.args.x0)) (c.args.x1 -ℤ c.args.x0)
quotient c =
    let part = part-within c.requires.x0 c.requires.x1 c.requires.x in
    let run = within_sub (within_between c.requires.x1) (within_between c.requires.x0) in
    let v0 = within_between c.requires.v0 in
    let v1 = within_between c.requires.v1 in
    let rise = within_sub v1 v0 in
    simp (
      to_z-of_z,
      c.ranges.x,
      fits_wider _ c.ranges.x,
      c.ranges.x0,
      fits_wider _ c.ranges.x0,
      c.ranges.x1,
      fits_wider _ c.ranges.x1,
      fits128 v0 tt,
      fits128 v1 tt,
      fits128 part tt,
      fits128 run tt,
      fits128 rise tt,
      fits128 (within_mul rise part) tt,
    ) at c.quo.ensures.value

small : (c : After-quo) → IsWithin (10 ^ 32) c.quo.result
small c =
    let part = part-within c.requires.x0 c.requires.x1 c.requires.x in
    let rise = within_sub (within_between c.requires.v1) (within_between c.requires.v0) in
    rw (quotient c) (within_up (within_quo (c.args.x1 -ℤ c.args.x0) (within_mul rise part)) tt)

value : (c : After-quo)
    → c.args.v0 +ℤ c.quo.result ≡ lerp_of c.args.x0 c.args.v0 c.args.x1 c.args.v1 c.args.x
unfolding lerp_of
value c = rw (quotient c)

pub overflow_add-result : goal.overflow_add-result
overflow_add-result c =
    let before = (goal.at.overflow_add-result c).After-quo in
    let v0 = within_between c.requires.v0 in
    let q = small before in
    simp (to_z-of_z, fits128 v0 tt, fits128 q tt) (fits128 (within_add v0 q) tt)

pub returns-clause-value : goal.returns-clause-value
returns-clause-value c =
    let before = (goal.at.returns-clause-value c).After-quo in
    let v0 = within_between c.requires.v0 in
    let q = small before in
    simp (to_z-of_z, fits128 v0 tt, fits128 q tt, fits128 (within_add v0 q) tt) (value before)

pub returns-clause-range : goal.returns-clause-range
returns-clause-range c =
    let before = (goal.at.returns-clause-range c).After-quo in
    let v0 = within_between c.requires.v0 in
    let q = small before in
    let range : IsBetween (pos 0) (c.args.v0 +ℤ c.quo.result) (pos (2 * 10 ^ 19)) =
    rw (value before) (between_lerp c.requires.v0 c.requires.v1 c.requires.x) in
    simp (to_z-of_z, fits128 v0 tt, fits128 q tt, fits128 (within_add v0 q) tt) range
