use Rattle.std.proofs.lemmas.Int.{to_z-of_z}
use Rattle.fixed_num.proofs.Bounds.{within_between, fits64}
use Rattle.xsect_tables.proofs.table.Table.grid_area.Goals as goal

pub returns-clause-range : goal.returns-clause-range
returns-clause-range c =
    let range = c.self.invariant.rows.areas.each c.args.i c.requires in
    simp (to_z-of_z, fits64 (within_between range) tt) range
