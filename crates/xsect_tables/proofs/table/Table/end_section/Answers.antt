use Rattle.std.proofs.Common.{FitsSigned, rules}
use Rattle.std.specs.Int.{w64}
use Rattle.std.proofs.lemmas.Int.{to_z-of_z}
use Rattle.xsect_tables.specs.LookUps.{end_section_of}
use Rattle.xsect_tables.proofs.table.Table.end_section.Goals as goal

pub returns : goal.returns
unfolding end_section_of
returns c =
    let area : FitsSigned w64 c.area_at.result = search rules in
    let width : FitsSigned w64 c.width_at.result = search rules in
    let a = simp (to_z-of_z, c.ranges.y) at c.area_at.ensures.value in
    let b = simp (to_z-of_z, c.ranges.y) at c.width_at.ensures.value in
    simp (to_z-of_z, area, width) (cc (a, b))
