use Rattle.std.proofs.Common.{◌≡◌, ◌+◌, pos}
use Rattle.std.proofs.lemmas.Int.{to_z-of_z}
use Rattle.fixed_num.proofs.Bounds.{within_between, fits64, fits128}
use Rattle.storage_shapes.specs.StoreTable.{strip_volume_of}
use Rattle.storage_shapes.proofs.rows.strip_volume.Goals as goal

pub returns-clause-value : goal.returns-clause-value
unfolding strip_volume_of
returns-clause-value c =
    let low = fits64 (within_between c.grid_depth.ensures.range) tt in
    let high = fits64 (within_between c.grid_depth-2.ensures.range) tt in
    let middle = fits64 (within_between c.middle-middle.ensures.range) tt in
    let area = fits64 (within_between c.shape_area.ensures.within) tt in
    let height = fits64 (within_between c.strip_height.ensures.range) tt in
    let l = simp (to_z-of_z, c.ranges.full) at c.grid_depth.ensures.value in
    let h = simp (to_z-of_z, c.ranges.full) at c.grid_depth-2.ensures.value in
    let m = simp (to_z-of_z, low, high) at c.middle-middle.ensures.value in
    let a = simp (to_z-of_z, middle) at c.shape_area.ensures.value in
    let r = simp (to_z-of_z, c.ranges.full) at c.strip_height.ensures.value in
    let p = simp (to_z-of_z, area, height) at c.prism.ensures.value in
    let mid = rw (l, h) at m in
    let whole = rw mid at a in
    let all = rw (whole, r) at p in
    simp (to_z-of_z, fits128 (within_between c.prism.ensures.range) tt) all
