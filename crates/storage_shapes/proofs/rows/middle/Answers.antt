use Rattle.std.proofs.Common.{◌≡◌, ◌+◌, ◌*◌, ◌^◌, pos}
use Rattle.std.proofs.lemmas.Int.{to_z-of_z}
use Rattle.fixed_num.specs.Ranges.{IsBetween}
use Rattle.fixed_num.proofs.Bounds.{within_add, within_between, fits64, fits128, fits_wider}
use Rattle.storage_shapes.specs.StoreTable.{middle_of}
use Rattle.storage_shapes.proofs.StripLemmas.{middle_of-between}
use Rattle.storage_shapes.proofs.rows.middle.Goals as goal
use Rattle.storage_shapes.proofs.rows.middle.Goals.{After-quo}

value : (c : After-quo) → c.quo.result ≡ middle_of c.args.low c.args.high
unfolding middle_of
value c =
    let sum = within_add (within_between c.requires.low) (within_between c.requires.high) in
    simp (to_z-of_z, c.ranges.low, fits_wider _ c.ranges.low, c.ranges.high, fits_wider _ c.ranges.high, fits128 sum tt)
    at c.quo.ensures.value

small : (c : After-quo) → IsBetween (pos 0) c.quo.result (pos 1_000_000_000)
small c = rw (value c) (middle_of-between c.requires.low c.requires.high)

pub overflow_cast-result : goal.overflow_cast-result
overflow_cast-result c =
    let f = within_between (small (goal.at.overflow_cast-result c).After-quo) in
    simp (to_z-of_z, fits128 f tt) (fits64 f tt)

pub returns-clause-value : goal.returns-clause-value
returns-clause-value c =
    let before = (goal.at.returns-clause-value c).After-quo in
    let f = within_between (small before) in
    simp (to_z-of_z, fits128 f tt, fits64 f tt) (value before)

pub returns-clause-range : goal.returns-clause-range
returns-clause-range c =
    let before = (goal.at.returns-clause-range c).After-quo in
    let f = within_between (small before) in
    simp (to_z-of_z, fits128 f tt, fits64 f tt) (small before)
