use Rattle.std.proofs.Common.{◌≡◌, ◌∙◌, ◌*◌, ◌^◌, List, ℤ, ◌+ℤ◌, slice_set, ap, subst, sym, arith}
use Rattle.std.proofs.lemmas.Int.{to_z-of_z}
use Rattle.fixed_num.specs.Ranges.{IsWithin}
use Rattle.fixed_num.proofs.Bounds.{within_add, within_between, fits64}
use Rattle.xsect_tables.specs.SectionTable.{entry, row_of, grid_perimeter, wetted_perimeter}
use Rattle.xsect_tables.proofs.RowLemmas.{entry-row_of, last_changed}
use Rattle.xsect_tables.proofs.TableLemmas.{grid_perimeter-between, top-between, wetted_below, wetted_last}
use Rattle.xsect_tables.proofs.rows.perimeters.Goals as goal
use Rattle.xsect_tables.proofs.rows.perimeters.Goals.{After-top_width}

last : (c : After-top_width) → entry c.side_perimeters-row.result 200 ≡ grid_perimeter c.args.section.now 200
last c = ap (λ (row : List ℤ). entry row 200) c.side_perimeters-row.ensures ∙ entry-row_of (grid_perimeter c.args.section.now) 200 (omega arith)

sides : (c : After-top_width) → IsWithin (2 * 10 ^ 15) (entry c.side_perimeters-row.result 200)
sides c = rw (last c) (within_between (grid_perimeter-between c.args.section.now 200 c.requires (omega arith)))

top : (c : After-top_width) → IsWithin (10 ^ 10) c.top_width.result
top c = rw c.top_width.ensures (within_between (top-between c.args.section.now.shape c.requires.shape_in))

pub overflow_add-row : goal.overflow_add-row
overflow_add-row c =
    let d = (goal.at.overflow_add-row c).After-top_width in
    simp (to_z-of_z, fits64 (sides d) tt, fits64 (top d) tt) (fits64 (within_add (sides d) (top d)) tt)

pub returns : goal.returns
returns c =
    let d = (goal.at.returns c).After-top_width in
    let whole = wetted_last c.args.section.now _ _ (last d) c.top_width.ensures in
    let changed = last_changed (grid_perimeter c.args.section.now) (wetted_perimeter c.args.section.now) _ (wetted_below c.args.section.now) whole in
    simp (to_z-of_z, fits64 (sides d) tt, fits64 (top d) tt, fits64 (within_add (sides d) (top d)) tt)
    (subst (λ (row : List ℤ). slice_set row 200 (entry c.side_perimeters-row.result 200 +ℤ c.top_width.result) ≡ row_of (wetted_perimeter c.args.section.now)) (sym c.side_perimeters-row.ensures) changed)
