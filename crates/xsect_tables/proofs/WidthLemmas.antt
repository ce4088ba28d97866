-- The width of a section at a depth up to its full height: the range for each shape, and for its strips.
use Rattle.std.proofs.Common.{ℕ, ◌+◌, ◌*◌, ◌^◌, ◌<◌, ◌≤◌, ℤ, pos, negsuc, ◌+ℤ◌, ◌-ℤ◌, ◌*ℤ◌, ◌≤ℤ◌, unsigned_abs, arith}
use Rattle.std.proofs.lemmas.Int.{ints, unsigned_abs-mul}
use Rattle.std.proofs.lemmas.Nat.{mul-le}
use Rattle.fixed_num.specs.Ranges.{IsBetween, IsCoefficient, IsFullHeight, IsWidth}
use Rattle.fixed_num.specs.Rounding.{quo_of}
use Rattle.fixed_num.specs.Roots.{root2_of}
use Rattle.fixed_num.proofs.Bounds.{between_mul, between_number, between_quo_by, between_root2, between_up, within_between, within_sub, quo_of-abs, quo_of-from_zero, le_number}
use Rattle.net_types.specs.Ranges.{SectionInRange, ShapeInRange}
use Rattle.net_types.specs.declared.network.Section.{Section}
use Rattle.net_types.specs.declared.network.Shape.{Shape}
use Rattle.net_types.specs.declared.network.Shape.TheVariants.{RectOpen, RectClosed, Trapezoidal, Triangular, Circular}
use Rattle.xsect_tables.specs.Sections.{shape_width, width_at}
use Rattle.xsect_tables.specs.SectionTable.{grid_height, grid_width, strip_area, strip_sides}
use Rattle.xsect_tables.proofs.GridLemmas.{grid_in_full, grid_between, grid_order, middle_in_full, within_full}
use Rattle.xsect_tables.proofs.StripLemmas.{sides_between, sides_above}

-- ---- each shape
pub spread-between : {left6 right6 y : ℤ} → IsCoefficient left6 → IsCoefficient right6 → IsBetween (pos 0) y (pos (10 ^ 9))
    → IsBetween (pos 0) (quo_of ((left6 +ℤ right6) *ℤ y) (pos 1_000_000)) (pos (2 * 10 ^ 11))
spread-between l r h = between_up (between_quo_by {y = pos 1_000_000} 1_000_000 (between_mul {j = 0} (slopes l r) h) (le_number tt) tt) tt tt
  where
    slopes : {a b : ℤ} → IsCoefficient a → IsCoefficient b → IsBetween (pos 0) (a +ℤ b) (pos (2 * 10 ^ 8))
    slopes p q = record { from = omega (arith, ints, p.from, q.from); to = omega (arith, ints, p.to, q.to) }

pub trapezoid-between : {bottom left6 right6 y : ℤ} → IsWidth bottom → IsCoefficient left6 → IsCoefficient right6 → IsBetween (pos 0) y (pos (10 ^ 9))
    → IsBetween (pos 0) (bottom +ℤ quo_of ((left6 +ℤ right6) *ℤ y) (pos 1_000_000)) (pos (3 * 10 ^ 11))
trapezoid-between b l r h =
    let s = spread-between l r h in
    record { from = omega (arith, ints, b.from, s.from); to = omega (arith, ints, b.to, s.to) }

pub triangle-between : {top full y : ℤ} → IsWidth top → IsFullHeight full → IsBetween (pos 0) y full → IsBetween (pos 0) (quo_of (top *ℤ y) full) (pos (10 ^ 10))
triangle-between {top = pos t} {full = pos n} {y = pos k} w f h =
    let size : unsigned_abs (pos t *ℤ pos k) ≤ 10 ^ 10 * n = omega (arith, unsigned_abs-mul (pos t) (pos k), mul-le t k (10 ^ 10) n (omega (arith, ints, w.to)) (omega (arith, ints, h.to))) in
    let most = quo_of-abs (pos t *ℤ pos k) (pos n) (10 ^ 10) size in
    record { from = quo_of-from_zero (pos t *ℤ pos k) (pos n) (omega (arith, ints)); to = omega (arith, ints, most) }
triangle-between {top = negsuc t} w f h = absurd w.from.le
triangle-between {top = pos t} {full = negsuc n} w f h = absurd f.from.le
triangle-between {top = pos t} {full = pos n} {y = negsuc k} w f h = absurd h.from.le

pub rest-between : {full y : ℤ} → IsFullHeight full → IsBetween (pos 0) y full → IsBetween (pos 0) (full -ℤ y) (pos (10 ^ 9))
rest-between f h = record { from = omega (arith, ints, h.to); to = omega (arith, ints, h.from, f.to) }

pub chord-between : {full y : ℤ} → IsFullHeight full → IsBetween (pos 0) y full → IsBetween (pos 0) (root2_of (y *ℤ (full -ℤ y))) (pos (10 ^ 9))
chord-between f h = between_root2 {n = 10 ^ 9} (between_mul (within_full f h) (rest-between f h)) tt

pub circle-between : {full y : ℤ} → IsFullHeight full → IsBetween (pos 0) y full → IsBetween (pos 0) (pos 2 *ℤ root2_of (y *ℤ (full -ℤ y))) (pos (2 * 10 ^ 9))
circle-between f h = between_up (between_mul (between_number (pos 2)) (chord-between f h)) tt tt

pub shape-between : (shape : Shape) {full y : ℤ} → ShapeInRange shape → IsFullHeight full → IsBetween (pos 0) y full → IsBetween (pos 0) (shape_width shape full y) (pos (3 * 10 ^ 11))
shape-between (RectOpen width) s f h = between_up s tt tt
shape-between (RectClosed width) s f h = between_up s tt tt
shape-between (Trapezoidal bottom left6 right6) s f h = trapezoid-between s.bottom_in s.left_in s.right_in (within_full f h)
shape-between (Triangular top) s f h = between_up (triangle-between s f h) tt tt
shape-between Circular s f h = between_up (circle-between f h) tt tt

pub width-between : (section : Section) {y : ℤ} → SectionInRange section → IsBetween (pos 0) y section.full → IsBetween (pos 0) (width_at section y) (pos (3 * 10 ^ 11))
unfolding width_at
width-between section s h = shape-between section.shape s.shape_in s.full_in h

-- ---- the grid and its strips
pub grid_width-between : (section : Section) (i : ℕ) → SectionInRange section → i ≤ 200 → IsBetween (pos 0) (grid_width section i) (pos (3 * 10 ^ 11))
unfolding grid_width
grid_width-between section i s h = width-between section s (grid_in_full s.full_in i h)

pub rise-between : {full : ℤ} (i : ℕ) → IsFullHeight full → i < 200 → IsBetween (pos 0) (grid_height full (i + 1) -ℤ grid_height full i) (pos (10 ^ 9))
rise-between {full} i f h =
    let order = grid_order f i (i + 1) (omega arith) in
    let low = grid_between f i (omega (arith, h)) in
    let high = grid_between f (i + 1) (omega (arith, h)) in
    record { from = omega (arith, ints, order); to = omega (arith, ints, low.from, high.to) }

pub strip_area-between : (section : Section) (i : ℕ) → SectionInRange section → i < 200 → IsBetween (pos 0) (strip_area section i) (pos (3 * 10 ^ 20))
unfolding strip_area
strip_area-between section i s h =
    let middle = middle_in_full (grid_in_full s.full_in i (omega (arith, h))) (grid_in_full s.full_in (i + 1) (omega (arith, h))) in
    between_mul (width-between section s middle) (rise-between i s.full_in h)

pub strip_sides-between : (section : Section) (i : ℕ) → SectionInRange section → i < 200 → IsBetween (pos 0) (strip_sides section i) (pos (10 ^ 12))
unfolding strip_sides
strip_sides-between section i s h =
    let low = grid_in_full s.full_in i (omega (arith, h)) in
    let high = grid_in_full s.full_in (i + 1) (omega (arith, h)) in
    sides_between (within_sub (within_between (within_full s.full_in high)) (within_between (within_full s.full_in low)))
    (within_sub (within_between (width-between section s high)) (within_between (width-between section s low)))

product_most : (w d t : ℤ) → IsBetween (pos 0) w (pos (3 * 10 ^ 11)) → pos 0 ≤ℤ d → d ≤ℤ t → (w *ℤ d) ≤ℤ (pos 10_000_000_000_000 *ℤ t)
product_most (pos w) (pos d) (pos t) p h k = omega (arith, ints, mul-le w d 10_000_000_000_000 t (omega (arith, ints, p.to)) (omega (arith, ints, k)))
product_most (negsuc w) d t p h k = absurd p.from.le
product_most (pos w) (negsuc d) t p h k = absurd h.le
product_most (pos w) (pos d) (negsuc t) p h k = absurd k.le

-- a strip is no greater than ten kilometres along its sides
pub strip_wet : (section : Section) (i : ℕ) → SectionInRange section → i < 200 → strip_area section i ≤ℤ (pos 10_000_000_000_000 *ℤ strip_sides section i)
unfolding strip_area strip_sides
strip_wet section i s h =
    let middle = middle_in_full (grid_in_full s.full_in i (omega (arith, h))) (grid_in_full s.full_in (i + 1) (omega (arith, h))) in
    let rise = rise-between i s.full_in h in
    product_most _ _ _ (width-between section s middle) rise.from (sides_above _ _ rise.from)
