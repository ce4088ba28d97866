use Rattle.std.proofs.lemmas.Int.{to_z-of_z}
use Rattle.fixed_num.proofs.Bounds.{within_between, fits64}
use Rattle.xsect_tables.proofs.LookUpLemmas.{height_between, height_below}
use Rattle.xsect_tables.proofs.table.Table.grid_height.Goals as goal

pub returns-clause-small : goal.returns-clause-small
returns-clause-small c =
    let small = height_between c.self.invariant.rows.heights c.args.i c.requires in
    simp (to_z-of_z, fits64 (within_between small) tt) small

pub returns-clause-range : goal.returns-clause-range
returns-clause-range c =
    let small = height_between c.self.invariant.rows.heights c.args.i c.requires in
    let below = height_below c.self.invariant.rows.heights c.args.i c.requires in
    simp (to_z-of_z, fits64 (within_between small) tt) (rw (← c.self.view_is) below)
