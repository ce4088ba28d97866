use Rattle.std.proofs.Common.{◌≡◌, ◌*◌, ◌^◌, pos, ◌≤ℤ◌}
use Rattle.std.proofs.lemmas.Int.{to_z-of_z}
use Rattle.fixed_num.specs.Ranges.{IsBetween}
use Rattle.fixed_num.proofs.Bounds.{within_between, within_mul, fits128, fits_wider}
use Rattle.storage_shapes.specs.StoreTable.{prism_of}
use Rattle.storage_shapes.proofs.StripLemmas.{prism_of-between, prism_of-low}
use Rattle.storage_shapes.proofs.rows.prism.Goals as goal
use Rattle.storage_shapes.proofs.rows.prism.Goals.{After-quo}

value : (c : After-quo) → c.quo.result ≡ prism_of c.args.area c.args.height
unfolding prism_of
value c =
    let product = within_mul (within_between c.requires.area) (within_between c.requires.height) in
    simp (
      to_z-of_z,
      c.ranges.area,
      fits_wider _ c.ranges.area,
      c.ranges.height,
      fits_wider _ c.ranges.height,
      fits128 product tt,
    ) at c.quo.ensures.value

small : (c : After-quo) → IsBetween (pos 0) c.quo.result (pos (8 * 10 ^ 20))
small c = rw (value c) (prism_of-between c.requires.area c.requires.height)

least : (c : After-quo) → c.args.height ≤ℤ pos 1_000_000_000 → c.quo.result ≤ℤ pos (10 ^ 19)
least c h =
    let part : IsBetween (pos 0) c.quo.result (pos (10 ^ 19)) =
    rw (value c) (prism_of-low c.requires.area (record { from = c.requires.height.from; to = h })) in
    part.to

pub returns-clause-value : goal.returns-clause-value
returns-clause-value c =
    let before = (goal.at.returns-clause-value c).After-quo in
    simp (to_z-of_z, fits128 (within_between (small before)) tt) (value before)

pub returns-clause-range : goal.returns-clause-range
returns-clause-range c =
    let before = (goal.at.returns-clause-range c).After-quo in
    simp (to_z-of_z, fits128 (within_between (small before)) tt) (small before)

pub returns-clause-low : goal.returns-clause-low
returns-clause-low c =
    let before = (goal.at.returns-clause-low c).After-quo in
    simp (to_z-of_z, fits128 (within_between (small before)) tt) (least before)
