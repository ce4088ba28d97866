use Rattle.std.proofs.Common.{◌≡◌, ◌+◌, ◌*◌, ◌^◌, pos}
use Rattle.fixed_num.specs.Ranges.{IsBetween}
use Rattle.xsect_tables.specs.SectionTable.{grid_perimeter}
use Rattle.xsect_tables.proofs.RowLemmas.{Filled}
use Rattle.xsect_tables.proofs.rows.side_perimeters.Given as goal

abbrev pub invariant-loop-i : goal.invariant-loop-i
invariant-loop-i l = record {
  filled : Filled (grid_perimeter l.section) l.row (l.i + 1);
  wet : l.wet ≡ grid_perimeter l.section l.i;
  range : IsBetween (pos 0) l.wet (pos (10 ^ 12 * (l.i + 1)));
}
