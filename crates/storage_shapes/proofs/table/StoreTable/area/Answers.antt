use Rattle.std.proofs.lemmas.Int.{to_z-of_z}
use Rattle.fixed_num.specs.Ranges.{IsNodeArea}
use Rattle.fixed_num.proofs.Bounds.{within_between, fits64}
use Rattle.std.proofs.Common.{◌≡◌}
use Rattle.storage_shapes.specs.StoreTable.{stored_area_of}
use Rattle.storage_shapes.proofs.TableLemmas.{area_in}
use Rattle.storage_shapes.proofs.table.StoreTable.area.Goals as goal
use Rattle.storage_shapes.proofs.table.StoreTable.area.Goals.{After-held_reading}

value : (c : After-held_reading) → c.held_reading.result ≡ stored_area_of c.args.self.now c.args.depth
unfolding stored_area_of
value c = simp (to_z-of_z, c.ranges.depth) at c.held_reading.ensures

range : (c : After-held_reading) → IsNodeArea c.held_reading.result
range c = rw (value c) (area_in c.args.self.now c.args.depth c.requires)

pub returns-clause-value : goal.returns-clause-value
returns-clause-value c =
    let b = (goal.at.returns-clause-value c).After-held_reading in
    simp (to_z-of_z, fits64 (within_between (range b)) tt) (value b)

pub returns-clause-range : goal.returns-clause-range
returns-clause-range c =
    let b = (goal.at.returns-clause-range c).After-held_reading in
    simp (to_z-of_z, fits64 (within_between (range b)) tt) (range b)
