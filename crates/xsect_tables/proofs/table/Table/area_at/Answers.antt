use Rattle.std.proofs.Common.{◌≡◌, ◌∙◌, FitsSigned, rules, subst, sym, ap}
use Rattle.std.specs.Int.{w64}
use Rattle.std.proofs.lemmas.Int.{to_z-of_z}
use Rattle.fixed_num.proofs.Bounds.{between_add, between_up, within_add, within_between, fits64}
use Rattle.xsect_tables.specs.LookUps.{area_of, row_at as row_of_depth, value_at as value_of}
use Rattle.xsect_tables.specs.SectionTable.{SectionTable, IsTable, full_height}
use Rattle.xsect_tables.proofs.LookUpLemmas.{placed}
use Rattle.xsect_tables.proofs.TableLemmas.{area_small, in_slot}
use Rattle.xsect_tables.proofs.table.Table.area_at.Goals as goal

pub slot_area-requires-clause-above : goal.slot_area-requires-clause-above
slot_area-requires-clause-above c =
    let test = sym (simp (to_z-of_z, c.ranges.y) at c.is_in_slot.ensures) ∙ c.if-is_in_slot.true in
    simp (to_z-of_z, c.ranges.y) (in_slot c.args.self.now.closed (full_height c.args.self.now) c.args.y test)

pub returns-then-is_in_slot-clause-value : goal.returns-then-is_in_slot-clause-value
unfolding area_of
returns-then-is_in_slot-clause-value c =
    let full = within_between c.full_area.ensures.range in
    let slot = within_between c.slot_area.ensures.range in
    let test = sym (simp (to_z-of_z, c.ranges.y) at c.is_in_slot.ensures) ∙ c.if-is_in_slot.true in
    let above = simp (to_z-of_z, c.ranges.y) at c.slot_area.ensures.value in
    simp (to_z-of_z, fits64 full tt, fits64 slot tt, fits64 (within_add full slot) tt) (rw test (cc (c.full_area.ensures.value, above)))

pub returns-then-is_in_slot-clause-range : goal.returns-then-is_in_slot-clause-range
returns-then-is_in_slot-clause-range c =
    let full = within_between c.full_area.ensures.range in
    let slot = within_between c.slot_area.ensures.range in
    let sum = between_up (between_add c.full_area.ensures.range c.slot_area.ensures.range) tt tt in
    simp (to_z-of_z, fits64 full tt, fits64 slot tt, fits64 (within_add full slot) tt) sum

pub returns-clause-value : goal.returns-clause-value
unfolding area_of
returns-clause-value c =
    let fits : FitsSigned w64 c.value_at.result = search rules in
    let test = sym (simp (to_z-of_z, c.ranges.y) at c.is_in_slot.ensures) ∙ c.if-is_in_slot.false in
    let row : c.value_at.result ≡ row_of_depth c.args.self.now.heights c.args.self.now.areas c.args.y =
    c.value_at.ensures
    ∙ ap (λ (t : SectionTable). value_of t.heights t.areas c.args.place.now.depth c.args.place.now.strip) c.self.view_is
    ∙ placed c.args.self.now.areas c.requires.place in
    simp (to_z-of_z, fits) (rw test row)

pub returns-clause-range : goal.returns-clause-range
returns-clause-range c =
    let fits : FitsSigned w64 c.value_at.result = search rules in
    let range = area_small (subst IsTable c.self.view_is c.self.invariant.rows) c.requires.depth in
    let value = simp (to_z-of_z, fits) at (returns-clause-value c) in
    simp (to_z-of_z, fits) (rw value range)
