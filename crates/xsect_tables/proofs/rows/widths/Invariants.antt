use Rattle.xsect_tables.specs.SectionTable.{grid_width}
use Rattle.xsect_tables.proofs.RowLemmas.{Filled}
use Rattle.xsect_tables.proofs.rows.widths.Given as goal

abbrev pub invariant-loop-i : goal.invariant-loop-i
invariant-loop-i l = Filled (grid_width l.section) l.row l.i
