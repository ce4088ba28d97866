-- What holds of the rows of every table, and the range of each look-up.
use Rattle.std.proofs.Common.{◌≡◌, ℕ, ◌*◌, ◌^◌, ◌<◌, ◌≤◌, Bool, true, false, cond, ◌==◌, ◌&&◌, ℤ, pos, ◌+ℤ◌, ◌-ℤ◌, ◌*ℤ◌, ◌≤ℤ◌, int_lt, sym, refl, ap, subst, ◌∙◌, arith}
use Rattle.std.specs.Int.{int_max, int_min}
use Rattle.std.proofs.lemmas.Bool.Decides.{nat_tests}
use Rattle.std.proofs.lemmas.Int.{ints, clamps}
use Rattle.fixed_num.specs.Ranges.{IsBetween, IsFall, IsFullHeight}
use Rattle.fixed_num.specs.Rounding.{quo_of}
use Rattle.fixed_num.specs.Sums.{sum_below}
use Rattle.fixed_num.proofs.Bounds.{between_quo_by, between_mul, between_up, quo_of-mono, quo_of-exact, le_number, lt_number}
use Rattle.net_types.specs.Ranges.{SectionInRange, ShapeInRange}
use Rattle.net_types.specs.declared.network.Section.{Section}
use Rattle.net_types.specs.declared.network.Shape.{Shape}
use Rattle.net_types.specs.declared.network.Shape.TheVariants.{RectOpen, RectClosed, Trapezoidal, Triangular, Circular}
use Rattle.xsect_tables.specs.Sections.{top_width}
use Rattle.xsect_tables.specs.SectionTable.{SectionTable, entry, row_of, table_of, full_area, full_height, grid_height, grid_width, grid_area, grid_perimeter, wetted_perimeter, strip_area, strip_sides, RowBetween, IsTable}
use Rattle.xsect_tables.specs.LookUps.{row_at, value_at, slot_width, slot_area, is_in_slot, area_of, width_of, least_width, perimeter_of}
use Rattle.xsect_tables.proofs.GridLemmas.{grid_is, grid-last, full_is}
use Rattle.xsect_tables.proofs.LookUpLemmas.{row_at-between, row_at-top, strip_found, depth_within}
use Rattle.xsect_tables.proofs.RatioLemmas.{lerp_wet}
use Rattle.xsect_tables.proofs.RowLemmas.{entry-row_of}
use Rattle.xsect_tables.proofs.StripLemmas.{sum_between, sum_rises, sum_times_most}
use Rattle.xsect_tables.proofs.WidthLemmas.{grid_width-between, strip_area-between, strip_sides-between, strip_wet}

-- ---- the rows of a section
pub grid_area-between : (section : Section) (i : ℕ) → SectionInRange section → i ≤ 200 → IsBetween (pos 0) (grid_area section i) (pos (10 ^ 18))
unfolding grid_area
grid_area-between section i s h =
    let sum = sum_between (strip_area section) (3 * 10 ^ 20) i (λ k below. strip_area-between section k s (omega (arith, h, below))) in
    let wide : IsBetween (pos 0) (sum_below (strip_area section) i) (pos (10 ^ 23)) = record { from = sum.from; to = omega (arith, ints, sum.to, h) } in
    between_up (between_quo_by {y = pos 1_000_000} 1_000_000 wide (le_number tt) tt) tt tt

-- no area below a grid height is greater than the full area
pub grid_area-full : (section : Section) (i : ℕ) → SectionInRange section → i ≤ 200 → IsBetween (pos 0) (grid_area section i) (grid_area section 200)
unfolding grid_area
grid_area-full section i s h =
    let from = (grid_area-between section i s h).from in
    let order = sum_rises (strip_area section) i 200 h (λ k below. (strip_area-between section k s below).from) in
    record { from = from; to = quo_of-mono _ _ (pos 1_000_000) order }

sides-between : (section : Section) (i : ℕ) → SectionInRange section → i ≤ 200 → IsBetween (pos 0) (sum_below (strip_sides section) i) (pos (10 ^ 15))
sides-between section i s h =
    let sum = sum_between (strip_sides section) (10 ^ 12) i (λ k below. strip_sides-between section k s (omega (arith, h, below))) in
    record { from = sum.from; to = omega (arith, ints, sum.to, h) }

pub grid_perimeter-between : (section : Section) (i : ℕ) → SectionInRange section → i ≤ 200 → IsBetween (pos 0) (grid_perimeter section i) (pos (2 * 10 ^ 15))
unfolding grid_perimeter
grid_perimeter-between section i s h =
    let bottom = grid_width-between section 0 s (omega arith) in
    let sides = sides-between section i s h in
    record { from = omega (arith, ints, bottom.from, sides.from); to = omega (arith, ints, bottom.to, sides.to) }

pub top-between : (shape : Shape) → ShapeInRange shape → IsBetween (pos 0) (top_width shape) (pos (10 ^ 10))
top-between (RectOpen width) s = record { from = omega (arith, ints); to = omega (arith, ints) }
top-between (RectClosed width) s = s
top-between (Trapezoidal bottom left6 right6) s = record { from = omega (arith, ints); to = omega (arith, ints) }
top-between (Triangular top) s = record { from = omega (arith, ints); to = omega (arith, ints) }
top-between Circular s = record { from = omega (arith, ints); to = omega (arith, ints) }

pub wetted_below : (section : Section) (k : ℕ) → k < 200 → grid_perimeter section k ≡ wetted_perimeter section k
unfolding wetted_perimeter
wetted_below section k h = let e : (k == 200) ≡ false = grind (arith, nat_tests, h) in rw e refl

pub wetted_last : (section : Section) (sides top : ℤ) → sides ≡ grid_perimeter section 200 → top ≡ top_width section.shape → sides +ℤ top ≡ wetted_perimeter section 200
unfolding wetted_perimeter
wetted_last section sides top e f = cc (e, f)

-- at each height at least bottom and sides are wetted
wetted-above : (section : Section) (i : ℕ) → SectionInRange section → i ≤ 200 → IsBetween (grid_perimeter section i) (wetted_perimeter section i) (pos (10 ^ 18))
unfolding wetted_perimeter
wetted-above section i s h = by (i == 200) (λ t. grind (arith, t))
  where
    by : (test : Bool) → (test ≡ true → i ≡ 200) → IsBetween (grid_perimeter section i) (cond test (grid_perimeter section 200 +ℤ top_width section.shape) (grid_perimeter section i)) (pos (10 ^ 18))
    by true e =
        let sides = grid_perimeter-between section i s h in
        let top = top-between section.shape s.shape_in in
        subst (λ (k : ℕ). IsBetween (grid_perimeter section i) (grid_perimeter section k +ℤ top_width section.shape) (pos (10 ^ 18))) (e refl)
        (record { from = omega (arith, ints, top.from); to = omega (arith, ints, sides.to, top.to) })
    by false e = let sides = grid_perimeter-between section i s h in record { from = omega (arith, ints); to = omega (arith, ints, sides.to) }

grid_wet : (section : Section) (i : ℕ) → SectionInRange section → i ≤ 200 → grid_area section i ≤ℤ (pos 10_000_000 *ℤ grid_perimeter section i)
unfolding grid_area grid_perimeter
grid_wet section i s h =
    let bottom = grid_width-between section 0 s (omega arith) in
    let strips = sum_times_most (strip_area section) (strip_sides section) i (λ k below. strip_wet section k s (omega (arith, h, below))) in
    let wet = grid_width section 0 +ℤ sum_below (strip_sides section) i in
    let order : sum_below (strip_area section) i ≤ℤ ((pos 10_000_000 *ℤ wet) *ℤ pos 1_000_000) = omega (arith, ints, strips, bottom.from) in
    subst (λ (z : ℤ). grid_area section i ≤ℤ z) (quo_of-exact (pos 10_000_000 *ℤ wet) (pos 1_000_000) (lt_number tt)) (quo_of-mono _ _ (pos 1_000_000) order)

wetted_wet : (section : Section) (i : ℕ) → SectionInRange section → i ≤ 200 → grid_area section i ≤ℤ (pos 10_000_000 *ℤ int_max (wetted_perimeter section i) (pos 1))
wetted_wet section i s h =
    let area = grid_wet section i s h in
    let more = wetted-above section i s h in
    omega (arith, ints, clamps, area, more.from)

-- ---- the whole table
grid_top : (full : ℤ) → IsFullHeight full → grid_height full 200 ≡ full
grid_top full f = let n = full_is f in rw n.1 (grid_is n.0 200 ∙ subst (λ (k : ℕ). pos k ≡ pos n.0) (sym (grid-last n.0)) refl)

pub full_height_is : (section : Section) → SectionInRange section → full_height (table_of section) ≡ section.full
unfolding table_of
full_height_is section s = entry-row_of (grid_height section.full) 200 (omega arith) ∙ grid_top section.full s.full_in

pub slot_is : (section : Section) → SectionInRange section → slot_width (table_of section) ≡ quo_of section.full (pos 100)
unfolding slot_width
slot_is section s = ap (λ (z : ℤ). quo_of z (pos 100)) (full_height_is section s)

pub table_is : (section : Section) → SectionInRange section → IsTable (table_of section)
unfolding table_of
table_is section s =
    let last : entry (row_of (grid_height section.full)) 200 ≡ section.full = entry-row_of (grid_height section.full) 200 (omega arith) ∙ grid_top section.full s.full_in in
    record {
      heights = record {
        full = subst IsFullHeight (sym last) s.full_in;
        each = λ i h. entry-row_of (grid_height section.full) i h ∙ subst (λ (z : ℤ). grid_height section.full i ≡ grid_height z i) (sym last) refl;
      };
      areas = record { each = λ i h. subst (λ (z : ℤ). IsBetween (pos 0) z (pos (10 ^ 18))) (sym (entry-row_of (grid_area section) i h)) (grid_area-between section i s h) };
      widths = record { each = λ i h. subst (λ (z : ℤ). IsBetween (pos 0) z (pos (10 ^ 18))) (sym (entry-row_of (grid_width section) i h)) (between_up (grid_width-between section i s h) tt tt) };
      perimeters = record { each = λ i h. subst (λ (z : ℤ). IsBetween (pos 0) z (pos (10 ^ 18))) (sym (entry-row_of (wetted_perimeter section) i h)) (wetted-between section i s h) };
      wet = λ i h. rw (entry-row_of (grid_area section) i h, entry-row_of (wetted_perimeter section) i h) (wetted_wet section i s h);
      barrels = s.barrels_in;
    }
  where
    wetted-between : (section : Section) (i : ℕ) → SectionInRange section → i ≤ 200 → IsBetween (pos 0) (wetted_perimeter section i) (pos (10 ^ 18))
    wetted-between section i s h =
        let more = wetted-above section i s h in
        let sides = grid_perimeter-between section i s h in
        record { from = omega (arith, ints, more.from, sides.from); to = more.to }

-- every area below a grid height of a section lies between 0 and the full area
pub areas_are : (section : Section) → SectionInRange section → RowBetween (pos 0) (table_of section).areas (full_area (table_of section))
unfolding table_of
areas_are section s = record {
  each = λ i h. rw (entry-row_of (grid_area section) i h, entry-row_of (grid_area section) 200 (omega arith)) (grid_area-full section i s h);
}

pub full_area_is : (section : Section) → full_area (table_of section) ≡ grid_area section 200
unfolding table_of
full_area_is section = entry-row_of (grid_area section) 200 (omega arith)

-- ---- the slot
pub slot-between : {table : SectionTable} → IsTable table → IsBetween (pos 0) (slot_width table) (pos (10 ^ 7))
unfolding slot_width
slot-between t = between_up (between_quo_by {y = pos 100} 100 t.heights.full (le_number tt) tt) tt tt

pub above_full-between : {table : SectionTable} {y : ℤ} → IsTable table → IsFall y → full_height table ≤ℤ y → IsBetween (pos 0) (y -ℤ full_height table) (pos (4 * 10 ^ 10))
above_full-between t d h = record { from = omega (arith, ints, h); to = omega (arith, ints, d.within, t.heights.full.from) }

pub slot_area-between : {table : SectionTable} {y : ℤ} → IsTable table → IsFall y → full_height table ≤ℤ y → IsBetween (pos 0) (slot_area table y) (pos (4 * 10 ^ 11))
unfolding slot_area
slot_area-between t d h = between_up (between_quo_by {y = pos 1_000_000} 1_000_000 (between_mul (slot-between t) (above_full-between t d h)) (le_number tt) tt) tt tt

pub in_slot : (closed : Bool) (full y : ℤ) → (closed && int_lt full y) ≡ true → full ≤ℤ y
in_slot true full y h = omega (arith, ints, h)
in_slot false full y h = let never : ⊥ = cc in absurd never

-- ---- the range of each look-up
-- an area is at most the greatest of the row and the slot's above the full one
pub area_of-between : {table : SectionTable} {y m : ℤ} → IsTable table → RowBetween (pos 0) table.areas m → IsFall y → IsBetween (pos 0) (area_of table y) (m +ℤ pos (4 * 10 ^ 11))
unfolding area_of
area_of-between {table} {y} {m} t rows d = by (is_in_slot table y) (in_slot table.closed (full_height table) y)
  where
    by : (test : Bool) → (test ≡ true → full_height table ≤ℤ y)
        → IsBetween (pos 0) (cond test (full_area table +ℤ slot_area table y) (row_at table.heights table.areas y)) (m +ℤ pos (4 * 10 ^ 11))
    by true e =
        let full = rows.each 200 (omega arith) in
        let slot = slot_area-between t d (e refl) in
        record { from = omega (arith, ints, full.from, slot.from); to = omega (arith, ints, full.to, slot.to) }
    by false e =
        let row = row_at-between y t.heights rows in
        record { from = row.from; to = omega (arith, ints, row.to) }

pub area_small : {table : SectionTable} {y : ℤ} → IsTable table → IsFall y → IsBetween (pos 0) (area_of table y) (pos (2 * 10 ^ 18))
area_small t d = between_up (area_of-between t t.areas d) tt tt

pub width_of-between : {table : SectionTable} (y : ℤ) → IsTable table → IsBetween (pos 0) (width_of table y) (pos (10 ^ 18))
unfolding width_of
width_of-between {table} y t = by (is_in_slot table y)
  where
    least : (closed : Bool) {slot width : ℤ} → IsBetween (pos 0) slot (pos (10 ^ 7)) → IsBetween (pos 0) width (pos (10 ^ 18)) → IsBetween (pos 0) (cond closed (int_max slot width) width) (pos (10 ^ 18))
    least true s w = record { from = omega (arith, ints, clamps, s.from); to = omega (arith, ints, clamps, s.to, w.to) }
    least false s w = w

    by : (test : Bool) → IsBetween (pos 0) (cond test (slot_width table) (least_width table (row_at table.heights table.widths y))) (pos (10 ^ 18))
    by true = between_up (slot-between t) tt tt
    by false = least table.closed (slot-between t) (row_at-between y t.heights t.widths)

pub perimeter_of-between : {table : SectionTable} (y : ℤ) → IsTable table → IsBetween (pos 0) (perimeter_of table y) (pos (10 ^ 18))
unfolding perimeter_of
perimeter_of-between y t = row_at-between y t.heights t.perimeters

-- ---- an area that is no more than the full one is at most that of thirty metres along the wetted perimeter
row_wet : {table : SectionTable} (y : ℤ) → IsTable table → row_at table.heights table.areas y ≤ℤ (pos 30_000_000 *ℤ int_max (row_at table.heights table.perimeters y) (pos 1))
unfolding row_at value_at
row_wet {table} y t =
    let s = strip_found t.heights (depth_within y t.heights) in
    lerp_wet s.from s.to s.apart (t.areas.each _ (omega (arith, s.within))).from (t.areas.each _ (omega (arith, s.within))).from
    (t.perimeters.each _ (omega (arith, s.within))).from (t.perimeters.each _ (omega (arith, s.within))).from
    (row_at-between y t.heights t.areas).from (row_at-between y t.heights t.perimeters).from
    (t.wet _ (omega (arith, s.within))) (t.wet _ (omega (arith, s.within)))

pub area_wet : {table : SectionTable} (y : ℤ) → IsTable table → int_min (area_of table y) (full_area table) ≤ℤ (pos 30_000_000 *ℤ int_max (perimeter_of table y) (pos 1))
unfolding area_of perimeter_of
area_wet {table} y t = by (is_in_slot table y) (in_slot table.closed (full_height table) y)
  where
    wet : row_at table.heights table.areas y ≤ℤ (pos 30_000_000 *ℤ int_max (row_at table.heights table.perimeters y) (pos 1))
    wet = row_wet y t

    by : (test : Bool) → (test ≡ true → full_height table ≤ℤ y)
        → int_min (cond test (full_area table +ℤ slot_area table y) (row_at table.heights table.areas y)) (full_area table) ≤ℤ (pos 30_000_000 *ℤ int_max (row_at table.heights table.perimeters y) (pos 1))
    by true e = let top = row_at-top table.areas t.heights (e refl) in omega (arith, ints, clamps, wet, top)
    by false e = omega (arith, ints, clamps, wet)
