use Rattle.std.proofs.Common.{◌≡◌, sym, subst}
use Rattle.std.proofs.lemmas.Int.{to_z-of_z}
use Rattle.storage_shapes.specs.ShapeArea.{shape_area_of}
use Rattle.storage_shapes.specs.StoreTable.{IsStoreTable}
use Rattle.storage_shapes.proofs.TableLemmas.{shape_area-in, table_is}
use Rattle.storage_shapes.proofs.table.StoreTable.build.Goals as goal

pub returns-clause-value : goal.returns-clause-value
returns-clause-value c =
    let a = simp (to_z-of_z, c.ranges.full) at c.area_points.ensures in
    let v = simp (to_z-of_z, c.ranges.full) at c.volume_row.ensures in
    rw (a, v)

pub returns-clause-table : goal.returns-clause-table
returns-clause-table c =
    let a = simp (to_z-of_z, c.ranges.full) at c.area_points.ensures in
    let v = simp (to_z-of_z, c.ranges.full) at c.volume_row.ensures in
    rw (a, v)
    (table_is (shape_area_of c.args.project.now.curves c.args.units.now c.args.shape.now) c.args.full c.requires.full
    (shape_area-in c.args.project.now.curves c.args.units.now c.args.shape.now))
