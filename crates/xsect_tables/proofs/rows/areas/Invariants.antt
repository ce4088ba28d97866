use Rattle.std.proofs.Common.{◌≡◌, ◌+◌, ◌*◌, ◌^◌, pos}
use Rattle.fixed_num.specs.Ranges.{IsBetween}
use Rattle.xsect_tables.specs.SectionTable.{grid_area, strip_area as area_of_strip}
use Rattle.fixed_num.specs.Sums.{sum_below}
use Rattle.xsect_tables.proofs.RowLemmas.{Filled}
use Rattle.xsect_tables.proofs.rows.areas.Given as goal

abbrev pub invariant-loop-i : goal.invariant-loop-i
invariant-loop-i l = record {
  filled : Filled (grid_area l.section) l.row (l.i + 1);
  below : l.below ≡ sum_below (area_of_strip l.section) l.i;
  range : IsBetween (pos 0) l.below (pos (3 * 10 ^ 20 * l.i));
}
