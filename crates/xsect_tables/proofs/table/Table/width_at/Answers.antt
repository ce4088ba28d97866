use Rattle.std.proofs.Common.{◌≡◌, ◌∙◌, true, false, FitsSigned, rules, subst, sym, ap}
use Rattle.std.specs.Int.{w64}
use Rattle.std.proofs.lemmas.Int.{to_z-of_z}
use Rattle.xsect_tables.specs.LookUps.{row_at as row_of_depth, slot_width, value_at as value_of, width_of}
use Rattle.xsect_tables.specs.SectionTable.{SectionTable, IsTable}
use Rattle.xsect_tables.proofs.LookUpLemmas.{placed}
use Rattle.xsect_tables.proofs.TableLemmas.{width_of-between}
use Rattle.xsect_tables.proofs.table.Table.width_at.Goals as goal
use Rattle.xsect_tables.proofs.table.Table.width_at.Goals.{After-value_at-width}

row : (c : After-value_at-width) → c.value_at-width.result ≡ row_of_depth c.args.self.now.heights c.args.self.now.widths c.args.y
row c =
    c.value_at-width.ensures
    ∙ ap (λ (t : SectionTable). value_of t.heights t.widths c.args.place.now.depth c.args.place.now.strip) c.self.view_is
    ∙ placed c.args.self.now.widths c.requires.place

pub returns-then-is_in_slot-clause-value : goal.returns-then-is_in_slot-clause-value
unfolding width_of
returns-then-is_in_slot-clause-value c =
    let fits : FitsSigned w64 c.self.inside.slot = search rules in
    let test = sym (simp (to_z-of_z, c.ranges.y) at c.is_in_slot.ensures) ∙ c.if-is_in_slot.true in
    let slot : c.self.inside.slot ≡ slot_width c.args.self.now = c.self.invariant.slot ∙ ap slot_width c.self.view_is in
    simp (to_z-of_z, fits) (rw test slot)

pub returns-then-is_in_slot-clause-range : goal.returns-then-is_in_slot-clause-range
returns-then-is_in_slot-clause-range c =
    let fits : FitsSigned w64 c.self.inside.slot = search rules in
    let range = width_of-between c.args.y (subst IsTable c.self.view_is c.self.invariant.rows) in
    let value = simp (to_z-of_z, fits) at (returns-then-is_in_slot-clause-value c) in
    simp (to_z-of_z, fits) (rw value range)

pub returns-then-self-clause-value : goal.returns-then-self-clause-value
unfolding width_of
returns-then-self-clause-value c =
    let fits : FitsSigned w64 c.max.result = search rules in
    let slot_fits : FitsSigned w64 c.self.inside.slot = search rules in
    let width_fits : FitsSigned w64 c.value_at-width.result = search rules in
    let test = sym (simp (to_z-of_z, c.ranges.y) at c.is_in_slot.ensures) ∙ c.if-is_in_slot.false in
    let closed : c.args.self.now.closed ≡ true = sym (ap (λ (t : SectionTable). t.closed) c.self.view_is) ∙ c.if-self.true in
    let slot : c.self.inside.slot ≡ slot_width c.args.self.now = c.self.invariant.slot ∙ ap slot_width c.self.view_is in
    let most = simp (to_z-of_z, slot_fits, width_fits) at c.max.ensures.value in
    let width = row (goal.at.returns-then-self-clause-value c).After-value_at-width in
    simp (to_z-of_z, fits) (rw (test, closed) (cc (most, slot, width)))

pub returns-then-self-clause-range : goal.returns-then-self-clause-range
returns-then-self-clause-range c =
    let fits : FitsSigned w64 c.max.result = search rules in
    let range = width_of-between c.args.y (subst IsTable c.self.view_is c.self.invariant.rows) in
    let value = simp (to_z-of_z, fits) at (returns-then-self-clause-value c) in
    simp (to_z-of_z, fits) (rw value range)

pub returns-clause-value : goal.returns-clause-value
unfolding width_of
returns-clause-value c =
    let fits : FitsSigned w64 c.value_at-width.result = search rules in
    let test = sym (simp (to_z-of_z, c.ranges.y) at c.is_in_slot.ensures) ∙ c.if-is_in_slot.false in
    let closed : c.args.self.now.closed ≡ false = sym (ap (λ (t : SectionTable). t.closed) c.self.view_is) ∙ c.if-self.false in
    simp (to_z-of_z, fits) (rw (test, closed) (row (goal.at.returns-clause-value c).After-value_at-width))

pub returns-clause-range : goal.returns-clause-range
returns-clause-range c =
    let fits : FitsSigned w64 c.value_at-width.result = search rules in
    let range = width_of-between c.args.y (subst IsTable c.self.view_is c.self.invariant.rows) in
    let value = simp (to_z-of_z, fits) at (returns-clause-value c) in
    simp (to_z-of_z, fits) (rw value range)
