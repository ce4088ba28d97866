-- The volumes so far, and the sum of the strips so far.
use Rattle.std.proofs.Common.{◌≡◌, ◌+◌, ◌*◌, ◌^◌, ℤ, pos}
use Rattle.fixed_num.specs.Ranges.{IsBetween}
use Rattle.fixed_num.specs.Sums.{sum_below}
use Rattle.storage_shapes.specs.ShapeArea.{shape_area_of}
use Rattle.storage_shapes.specs.StoreTable.{grid_volume_of, strip_volume_of}
use Rattle.storage_shapes.proofs.RowLemmas.{Filled}
use Rattle.storage_shapes.proofs.rows.volume_row.Given as goal

abbrev pub invariant-loop-i : goal.invariant-loop-i
invariant-loop-i l = record {
  filled : Filled ℤ (pos 0) (grid_volume_of (shape_area_of l.project.curves l.units l.shape) l.full) l.row (l.i + 1);
  below : l.below ≡ sum_below (strip_volume_of (shape_area_of l.project.curves l.units l.shape) l.full) l.i;
  range : IsBetween (pos 0) l.below (pos (10 ^ 19 * l.i));
}
