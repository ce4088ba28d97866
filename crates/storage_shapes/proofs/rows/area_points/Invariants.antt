-- The points so far.
use Rattle.std.proofs.Common.{◌≡◌, ℤ, pos}
use Rattle.storage_shapes.specs.ShapeArea.{shape_area_of}
use Rattle.storage_shapes.specs.StoreTable.{grid_point_of}
use Rattle.storage_shapes.proofs.RowLemmas.{Filled}
use Rattle.storage_shapes.proofs.rows.area_points.Given as goal

abbrev pub invariant-loop-i : goal.invariant-loop-i
invariant-loop-i l =
    Filled (ℤ × ℤ) (pos 0, pos 0) (grid_point_of (shape_area_of l.project.curves l.units l.shape) l.full) l.row l.i
