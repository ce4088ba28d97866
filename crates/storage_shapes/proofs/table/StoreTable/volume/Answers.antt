use Rattle.std.proofs.Common.{◌≡◌, ◌+◌, ◌*◌, ◌^◌, pos, ◌+ℤ◌}
use Rattle.std.proofs.lemmas.Int.{to_z-of_z}
use Rattle.fixed_num.proofs.Bounds.{within_add, within_between, fits128}
use Rattle.storage_shapes.specs.StoreTable.{stored_volume_of}
use Rattle.storage_shapes.proofs.table.StoreTable.volume.Goals as goal

pub returns-clause-value : goal.returns-clause-value
unfolding stored_volume_of
returns-clause-value c =
    let below = within_between c.volume_below.ensures.range in
    let above = within_between c.volume_above.ensures.range in
    let b = simp (to_z-of_z, c.ranges.depth) at c.volume_below.ensures.value in
    let a = simp (to_z-of_z, c.ranges.depth) at c.volume_above.ensures.value in
    simp (to_z-of_z, fits128 below tt, fits128 above tt, fits128 (within_add below above) tt) (rw (b, a))
