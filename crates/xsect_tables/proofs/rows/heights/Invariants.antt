use Rattle.xsect_tables.specs.SectionTable.{grid_height as height_of_grid}
use Rattle.xsect_tables.proofs.RowLemmas.{Filled}
use Rattle.xsect_tables.proofs.rows.heights.Given as goal

abbrev pub invariant-loop-i : goal.invariant-loop-i
invariant-loop-i l = Filled (height_of_grid l.full) l.row l.i
