use Rattle.std.proofs.Common.{List, ℤ, FitsSigned, ap, sym, subst, arith}
use Rattle.std.specs.Int.{w64}
use Rattle.std.proofs.lemmas.Int.{to_z-of_z}
use Rattle.fixed_num.proofs.Bounds.{within_between, fits64}
use Rattle.xsect_tables.specs.SectionTable.{entry, table_of}
use Rattle.xsect_tables.proofs.TableLemmas.{table_is}
use Rattle.xsect_tables.proofs.table.Table.section_area.Goals as goal

pub returns : goal.returns
unfolding table_of
returns c =
    let area = ap (λ (row : List ℤ). entry row 200) c.areas.ensures in
    let range = (table_is c.args.section.now c.requires).areas.each 200 (omega arith) in
    let fits = subst (λ (z : ℤ). FitsSigned w64 z) (sym area) (fits64 (within_between range) tt) in
    simp (to_z-of_z, fits) area
