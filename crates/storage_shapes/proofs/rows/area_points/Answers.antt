use Rattle.std.proofs.Common.{◌≡◌, ℕ, ℤ, pos, arith}
use Rattle.std.proofs.lemmas.Int.{to_z-of_z}
use Rattle.fixed_num.proofs.Bounds.{within_between, fits64}
use Rattle.storage_shapes.specs.ShapeArea.{shape_area_of}
use Rattle.storage_shapes.specs.StoreTable.{area_points_of, grid_depth_of, grid_point_of}
use Rattle.storage_shapes.proofs.RowLemmas.{filled_all, filled_more, filled_none}
use Rattle.storage_shapes.proofs.rows.area_points.Goals as goal

pub loop-i-init : goal.loop-i-init
loop-i-init c = filled_none (ℤ × ℤ) (pos 0, pos 0) _

pub loop-i-preserved : goal.loop-i-preserved
loop-i-preserved c =
    let depth = fits64 (within_between c.grid_depth-depth.ensures.range) tt in
    let area = fits64 (within_between c.shape_area.ensures.within) tt in
    let d = simp (to_z-of_z, c.ranges.full) at c.grid_depth-depth.ensures.value in
    let a = simp (to_z-of_z, depth) at c.shape_area.ensures.value in
    let b = rw d at a in
    let f : ℕ → ℤ × ℤ = grid_point_of (shape_area_of c.args.project.now.curves c.args.units.now c.args.shape.now) c.args.full in
    let point : ◌≡◌ {A = ℤ × ℤ} (c.grid_depth-depth.result, c.shape_area.result) (f c.loop-i.i) = rw (d, b) in
    let filled = simp (to_z-of_z, c.ranges.full) at c.loop-i.invariant in
    simp (to_z-of_z, c.ranges.full, depth, area)
    (filled_more (ℤ × ℤ) (pos 0, pos 0) _ _ c.loop-i.i _ (omega arith) filled point)

pub returns : goal.returns
unfolding area_points_of
returns c =
    filled_all (ℤ × ℤ) (pos 0, pos 0) _ _ c.loop-i.i (omega arith) (simp (to_z-of_z, c.ranges.full) at c.loop-i.invariant)
