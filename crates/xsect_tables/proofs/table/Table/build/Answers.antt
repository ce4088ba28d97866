use Rattle.std.proofs.Common.{◌≡◌, ◌∙◌, FitsSigned, ap, pos, rules, sym, subst}
use Rattle.std.specs.Int.{w64}
use Rattle.std.proofs.lemmas.Int.{to_z-of_z}
use Rattle.fixed_num.proofs.Bounds.{within_between, fits64}
use Rattle.xsect_tables.specs.LookUps.{slot_width}
use Rattle.xsect_tables.specs.SectionTable.{SectionTable, IsTable, RowBetween, full_area, table_of}
use Rattle.xsect_tables.proofs.TableLemmas.{areas_are, slot_is, table_is}
use Rattle.xsect_tables.proofs.table.Table.build.Goals as goal
use Rattle.xsect_tables.proofs.table.Table.build.Goals.{After-inverses_of}

value : (c : After-inverses_of) → table_of c.args.section.now ≡ record { heights = c.heights.result; areas = c.areas.result; widths = c.widths.result; perimeters = c.perimeters.result; barrels = c.args.section.now.barrels; closed = c.has_top.result }
unfolding table_of
value c =
    let full : FitsSigned w64 c.args.section.now.full = fits64 (within_between c.requires.full_in) tt in
    let h = simp (to_z-of_z, full) at c.heights.ensures in
    cc (h, c.areas.ensures, c.widths.ensures, c.perimeters.ensures, c.has_top.ensures)

pub invariant_of-result : goal.invariant_of-result
invariant_of-result c =
    let barrels : FitsSigned w64 c.args.section.now.barrels = fits64 (within_between c.requires.barrels_in) tt in
    let full : FitsSigned w64 c.args.section.now.full = fits64 (within_between c.requires.full_in) tt in
    let slot_fits : FitsSigned w64 c.slot.result = search rules in
    let slot = (simp (to_z-of_z, full) at c.slot.ensures) ∙ sym (slot_is c.args.section.now c.requires) ∙ ap slot_width (value c) in
    simp (to_z-of_z, barrels, slot_fits) (record { rows = subst IsTable (value c) (table_is c.args.section.now c.requires); slot = slot })

pub returns-clause-value : goal.returns-clause-value
returns-clause-value c =
    let barrels : FitsSigned w64 c.args.section.now.barrels = fits64 (within_between c.requires.barrels_in) tt in
    simp (to_z-of_z, barrels) (sym (value c))

pub returns-clause-table : goal.returns-clause-table
returns-clause-table c =
    let barrels : FitsSigned w64 c.args.section.now.barrels = fits64 (within_between c.requires.barrels_in) tt in
    simp (to_z-of_z, barrels) (subst IsTable (value c) (table_is c.args.section.now c.requires))

pub returns-clause-areas : goal.returns-clause-areas
returns-clause-areas c = subst (λ (t : SectionTable). RowBetween (pos 0) t.areas (full_area t)) (value c) (areas_are c.args.section.now c.requires)
