use Rattle.std.proofs.Common.{◌≡◌, ◌^◌, pos, ◌≤ℤ◌}
use Rattle.std.proofs.lemmas.Int.{to_z-of_z}
use Rattle.fixed_num.specs.Ranges.{IsBetween}
use Rattle.fixed_num.proofs.Bounds.{within_between, within_mul, within_number, fits64, fits128, fits_wider}
use Rattle.storage_shapes.specs.ShapeArea.{product_of}
use Rattle.storage_shapes.proofs.PowerLemmas.{product-between, product-one, product-two}
use Rattle.storage_shapes.proofs.powers.product.Goals as goal
use Rattle.storage_shapes.proofs.powers.product.Goals.{After-quo}

value : (c : After-quo) → c.quo.result ≡ product_of c.args.p c.args.x
unfolding product_of
value c =
    let p1 = within_mul (within_between c.requires.p) (within_between c.requires.x) in
    simp (
      to_z-of_z,
      c.ranges.p,
      fits_wider _ c.ranges.p,
      c.ranges.x,
      fits_wider _ c.ranges.x,
      fits128 p1 tt,
    ) at c.quo.ensures.value

small : (c : After-quo) → IsBetween (pos 0) c.quo.result (pos 1_000_000_000_000_000_000)
small c =
    rw (value c) (product-between c.requires.p c.requires.x)

pub overflow_cast-result : goal.overflow_cast-result
overflow_cast-result c =
    let f = within_between (small (goal.at.overflow_cast-result c).After-quo) in
    simp (to_z-of_z, fits128 f tt) (fits64 f tt)

pub returns-clause-value : goal.returns-clause-value
returns-clause-value c =
    let before = (goal.at.returns-clause-value c).After-quo in
    let f = within_between (small before) in
    simp (to_z-of_z, fits128 f tt, fits64 f tt) (value before)

pub returns-clause-range : goal.returns-clause-range
returns-clause-range c =
    let before = (goal.at.returns-clause-range c).After-quo in
    let f = within_between (small before) in
    simp (to_z-of_z, fits128 f tt, fits64 f tt) (small before)

one_more : (c : After-quo) → c.args.p ≤ℤ pos 1_000_000 → c.quo.result ≤ℤ pos 10_000_000_000
one_more c h =
    let part : IsBetween (pos 0) c.quo.result (pos 10_000_000_000) =
    rw (value c) (product-one (record { from = c.requires.p.from; to = h }) c.requires.x) in
    part.to

pub returns-clause-one : goal.returns-clause-one
returns-clause-one c =
    let before = (goal.at.returns-clause-one c).After-quo in
    let f = within_between (small before) in
    simp (to_z-of_z, fits128 f tt, fits64 f tt) (one_more before)

two_more : (c : After-quo) → c.args.p ≤ℤ pos 10_000_000_000 → c.quo.result ≤ℤ pos 100_000_000_000_000
two_more c h =
    let part : IsBetween (pos 0) c.quo.result (pos 100_000_000_000_000) =
    rw (value c) (product-two (record { from = c.requires.p.from; to = h }) c.requires.x) in
    part.to

pub returns-clause-two : goal.returns-clause-two
returns-clause-two c =
    let before = (goal.at.returns-clause-two c).After-quo in
    let f = within_between (small before) in
    simp (to_z-of_z, fits128 f tt, fits64 f tt) (two_more before)
