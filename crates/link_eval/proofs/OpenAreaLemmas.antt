-- The area of the opening of an orifice is at most that of its full section.
use Rattle.std.proofs.Common.{◌≡◌, ℕ, ◌^◌, ◌≤◌, Bool, true, false, cond, ◌&&◌, ℤ, pos, negsuc, ◌*ℤ◌, ◌≤ℤ◌, int_lt, refl, subst, arith}
use Rattle.std.specs.Int.{int_min}
use Rattle.std.proofs.Math.Nat.{mul-le-mul_left}
use Rattle.std.proofs.lemmas.Int.{ints, clamps}
use Rattle.conduit_flow.specs.Conduits.{IsConduitTable}
use Rattle.fixed_num.specs.Ranges.{IsBetween, IsDepth, IsPart}
use Rattle.fixed_num.specs.Rounding.{quo_of}
use Rattle.fixed_num.proofs.Bounds.{lt_number, quo_of-exact, quo_of-mono}
use Rattle.orifice_weir.specs.Heads.{part_of, upper_of}
use Rattle.orifice_weir.specs.OrificeFlow.{IsOrifice, opening_of, orifice_depth_of}
use Rattle.orifice_weir.specs.declared.orifice.OrificeData.{OrificeData}
use Rattle.xsect_tables.proofs.LookUpLemmas.{row_at-between}
use Rattle.xsect_tables.specs.LookUps.{area_of}
use Rattle.xsect_tables.specs.SectionTable.{SectionTable, full_height}
use Rattle.link_eval.specs.Orifices.{IsOrificeLaw, open_area_of}
use Rattle.link_eval.specs.declared.orifice.OrificeLaw.{OrificeLaw}

-- a part is no more than the whole
part_order : (height part6 : ℤ) → IsDepth height → IsPart part6 → (height *ℤ part6) ≤ℤ (height *ℤ pos 1_000_000)
part_order (pos h) (pos p) d q = omega (arith, ints, mul-le-mul_left h (fewer p q))
  where
    fewer : (p : ℕ) → IsPart (pos p) → p ≤ 1_000_000
    fewer p q = omega (arith, ints, q.to)
part_order (negsuc h) part6 d q = absurd d.from.le
part_order (pos h) (negsuc p) d q = absurd q.from.le

part-most : {height part6 : ℤ} → IsDepth height → IsPart part6 → part_of height part6 ≤ℤ height
unfolding part_of
part-most {height} {part6} d q =
    subst (λ (z : ℤ). quo_of (height *ℤ part6) (pos 1_000_000) ≤ℤ z) (quo_of-exact height (pos 1_000_000) (lt_number tt))
    (quo_of-mono _ _ (pos 1_000_000) (part_order height part6 d q))

-- an opening is filled no higher than it is
filled-most : (bottom : Bool) (upper opening : ℤ) {full : ℤ} → opening ≤ℤ full → cond bottom opening (int_min upper opening) ≤ℤ full
filled-most true upper opening h = h
filled-most false upper opening h = omega (arith, ints, clamps, h)

depth-most : (orifice : OrificeData) {setting : ℤ} (near far : ℤ) → IsOrifice orifice → IsPart setting → orifice_depth_of orifice setting near far ≤ℤ orifice.full
unfolding orifice_depth_of opening_of
depth-most orifice {setting} near far o s =
    let full : IsDepth orifice.full = record { from = omega (arith, ints, o.full.from); to = o.full.to } in
    filled-most orifice.bottom (upper_of near far orifice.sill) (part_of orifice.full setting) (part-most full s)

-- below the full height an area is at most the full one
refuted : (b : Bool) → ¬ (b ≡ true) → b ≡ false
refuted true n = absurd (n refl)
refuted false n = refl

no_slot : (closed : Bool) (full y : ℤ) → y ≤ℤ full → (closed && int_lt full y) ≡ false
no_slot true full y h = refuted (int_lt full y) (λ e. omega (arith, ints, h, e))
no_slot false full y h = refl

area-most : {table : SectionTable} {y : ℤ} → IsConduitTable table → y ≤ℤ full_height table → IsBetween (pos 0) (area_of table y) (pos (10 ^ 11))
unfolding area_of
area-most {table} {y} t h =
    let row = row_at-between y t.rows.heights t.areas in
    rw (no_slot table.closed (full_height table) y h) (record { from = row.from; to = omega (arith, ints, row.to, t.full.to) })

pub open_area-between : (law : OrificeLaw SectionTable) {setting : ℤ} (near far : ℤ) → IsOrificeLaw law → IsPart setting → IsBetween (pos 0) (open_area_of law setting near far) (pos (10 ^ 11))
unfolding open_area_of
open_area-between law {setting} near far l s =
    area-most l.table
    (subst (λ (z : ℤ). orifice_depth_of law.orifice setting near far ≤ℤ z) l.full (depth-most law.orifice near far l.orifice s))
