use Rattle.std.proofs.Common.{◌≡◌, ◌∙◌, ◌*◌, ◌^◌, pos, ap, sym, subst, arith}
use Rattle.std.proofs.lemmas.Int.{to_z-of_z}
use Rattle.fixed_num.specs.Ranges.{IsBetween, IsWithin}
use Rattle.fixed_num.proofs.Bounds.{within_mul, within_sub, within_between, fits64, fits128, fits_wider}
use Rattle.xsect_tables.specs.LookUps.{slot_width, slot_area as area_of_slot}
use Rattle.xsect_tables.specs.SectionTable.{IsTable, entry, full_height}
use Rattle.xsect_tables.proofs.LookUpLemmas.{height_between}
use Rattle.xsect_tables.proofs.TableLemmas.{slot-between, slot_area-between}
use Rattle.xsect_tables.proofs.table.Table.slot_area.Goals as goal
use Rattle.xsect_tables.proofs.table.Table.slot_area.Goals.{After-quo}

value : (c : After-quo) → c.quo.result ≡ area_of_slot c.args.self.now c.args.y
unfolding area_of_slot
value c =
    let table = subst IsTable c.self.view_is c.self.invariant.rows in
    let slot : c.self.inside.slot ≡ slot_width c.args.self.now = c.self.invariant.slot ∙ ap slot_width c.self.view_is in
    let full : entry c.self.inside.heights 200 ≡ full_height c.args.self.now = ap full_height c.self.view_is in
    let s : IsWithin (10 ^ 7) c.self.inside.slot = subst (IsWithin (10 ^ 7)) (sym slot) (within_between (slot-between table)) in
    let top = within_between (height_between c.self.invariant.rows.heights 200 (omega arith)) in
    let above = within_sub c.requires.depth top in
    let q = simp (to_z-of_z, fits64 s tt, fits128 s tt, c.ranges.y, fits_wider _ c.ranges.y, fits64 top tt, fits128 top tt, fits128 above tt, fits128 (within_mul s above) tt) at c.quo.ensures.value in
    cc (q, slot, full)

small : (c : After-quo) → IsBetween (pos 0) c.quo.result (pos (4 * 10 ^ 11))
small c = rw (value c) (slot_area-between (subst IsTable c.self.view_is c.self.invariant.rows) c.requires.depth c.requires.above)

pub overflow_cast-result : goal.overflow_cast-result
overflow_cast-result c = simp (to_z-of_z, fits128 (within_between (small c)) tt) (fits64 (within_between (small c)) tt)

pub returns-clause-value : goal.returns-clause-value
returns-clause-value c = simp (to_z-of_z, fits128 (within_between (small c)) tt, fits64 (within_between (small c)) tt) (value c)

pub returns-clause-range : goal.returns-clause-range
returns-clause-range c = simp (to_z-of_z, fits128 (within_between (small c)) tt, fits64 (within_between (small c)) tt) (small c)

pub overflow_mul-self-inside : goal.overflow_mul-self-inside
overflow_mul-self-inside c =
    let table = subst IsTable c.self.view_is c.self.invariant.rows in
    let slot : c.self.inside.slot ≡ slot_width c.args.self.now = c.self.invariant.slot ∙ ap slot_width c.self.view_is in
    let s : IsWithin (10 ^ 7) c.self.inside.slot = subst (IsWithin (10 ^ 7)) (sym slot) (within_between (slot-between table)) in
    let top = within_between (height_between c.self.invariant.rows.heights 200 (omega arith)) in
    let above = within_sub c.requires.depth top in
    simp (to_z-of_z, fits64 s tt, fits128 s tt, c.ranges.y, fits_wider _ c.ranges.y, fits64 top tt, fits128 top tt, fits128 above tt) (fits128 (within_mul s above) tt)
