-- The full area of a section whose shape is narrow, by its height and one strip.
use Rattle.std.proofs.Common.{◌≡◌, ℕ, zero, suc, ◌+◌, ◌*◌, ◌^◌, ◌<◌, ◌≤◌, true, ℤ, pos, negsuc, ◌+ℤ◌, ◌-ℤ◌, ◌*ℤ◌, ◌≤ℤ◌, refl, subst, arith}
use Rattle.std.proofs.lemmas.Int.{ints}
use Rattle.std.proofs.lemmas.Nat.{mul-le}
use Rattle.fixed_num.specs.Ranges.{IsBetween, IsFullHeight}
use Rattle.fixed_num.specs.Rounding.{quo_of}
use Rattle.fixed_num.specs.Sums.{sum_below}
use Rattle.fixed_num.proofs.Bounds.{between_up, quo_of-mono, quo_of-exact, lt_number}
use Rattle.net_types.specs.Ranges.{SectionInRange, ShapeInRange}
use Rattle.net_types.specs.declared.network.Section.{Section}
use Rattle.net_types.specs.declared.network.Shape.{Shape}
use Rattle.net_types.specs.declared.network.Shape.TheVariants.{RectOpen, RectClosed, Trapezoidal, Triangular, Circular}
use Rattle.xsect_tables.specs.Sections.{shape_width, width_at, is_narrow}
use Rattle.xsect_tables.specs.SectionTable.{grid_area, grid_height, strip_area}
use Rattle.xsect_tables.proofs.GridLemmas.{grid_in_full, middle_in_full}
use Rattle.xsect_tables.proofs.StripLemmas.{sum_more, sum_rises}
use Rattle.xsect_tables.proofs.WidthLemmas.{circle-between, triangle-between, rise-between, strip_area-between}

narrow-between : (shape : Shape) {full y : ℤ} → ShapeInRange shape → is_narrow shape ≡ true → IsFullHeight full → IsBetween (pos 0) y full → IsBetween (pos 0) (shape_width shape full y) (pos (10 ^ 10))
narrow-between (RectOpen width) s e f h = between_up s tt tt
narrow-between (RectClosed width) s e f h = between_up s tt tt
narrow-between (Trapezoidal bottom left6 right6) s e f h = let never : ⊥ = cc e in absurd never
narrow-between (Triangular top) s e f h = triangle-between s f h
narrow-between Circular s e f h = between_up (circle-between f h) tt tt

product_most : (w d : ℤ) → IsBetween (pos 0) w (pos (10 ^ 10)) → pos 0 ≤ℤ d → (w *ℤ d) ≤ℤ (pos 10_000_000_000 *ℤ d)
product_most (pos w) (pos d) p h = omega (arith, ints, mul-le w d 10_000_000_000 d (omega (arith, ints, p.to)) (omega arith))
product_most (negsuc w) d p h = absurd p.from.le
product_most (pos w) (negsuc d) p h = absurd h.le

strip_most : (section : Section) (i : ℕ) → SectionInRange section → is_narrow section.shape ≡ true → i < 200
    → strip_area section i ≤ℤ (pos 10_000_000_000 *ℤ (grid_height section.full (i + 1) -ℤ grid_height section.full i))
unfolding strip_area width_at
strip_most section i s e h =
    let middle = middle_in_full (grid_in_full s.full_in i (omega (arith, h))) (grid_in_full s.full_in (i + 1) (omega (arith, h))) in
    product_most _ _ (narrow-between section.shape s.shape_in e s.full_in middle) (rise-between i s.full_in h).from

-- all strips together are no greater than that width up to the last of them
sum_most : (section : Section) (n : ℕ) → SectionInRange section → is_narrow section.shape ≡ true → n ≤ 200
    → sum_below (strip_area section) n ≤ℤ (pos 10_000_000_000 *ℤ grid_height section.full n)
sum_most section zero s e h = let low = (grid_in_full s.full_in 0 (omega arith)).from in omega (arith, ints, low)
sum_most section (suc n) s e h =
    let below = sum_most section n s e (omega (arith, h)) in
    let next : n + 1 ≡ suc n = omega arith in
    let last = subst (λ (k : ℕ). strip_area section n ≤ℤ (pos 10_000_000_000 *ℤ (grid_height section.full k -ℤ grid_height section.full n))) next (strip_most section n s e (omega (arith, h))) in
    omega (arith, ints, below, last)

-- a sum of numbers that are not negative is at least each of them
sum_above : (f : ℕ → ℤ) (k n : ℕ) → k < n → ((i : ℕ) → i < n → pos 0 ≤ℤ f i) → f k ≤ℤ sum_below f n
sum_above f k n h each =
    let more = sum_more f k (sum_below f k) (f k) refl refl in
    let rest = sum_rises f (k + 1) n (omega (arith, h)) each in
    let from = sum_rises f 0 k (omega arith) (λ i m. each i (omega (arith, m, h))) in
    omega (arith, ints, more, rest, from)

pub plain_area : (section : Section) (k n : ℕ) → SectionInRange section → k < n → n ≤ 200 → is_narrow section.shape ≡ true → section.full ≤ℤ pos 10_000_000
    → pos 1_000_000 ≤ℤ strip_area section k → IsBetween (pos 1) (grid_area section n) (pos (10 ^ 11))
unfolding grid_area
plain_area section k n s h m e low wide =
    let sum = sum_below (strip_area section) n in
    let top = (grid_in_full s.full_in n m).to in
    let above = sum_above (strip_area section) k n h (λ i b. (strip_area-between section i s (omega (arith, b, m))).from) in
    let below = sum_most section n s e m in
    let least : (pos 1 *ℤ pos 1_000_000) ≤ℤ sum = omega (arith, ints, above, wide) in
    let most : sum ≤ℤ (pos 100_000_000_000 *ℤ pos 1_000_000) = omega (arith, ints, below, top, low) in
    record {
      from = subst (λ (z : ℤ). z ≤ℤ quo_of sum (pos 1_000_000)) (quo_of-exact (pos 1) (pos 1_000_000) (lt_number tt)) (quo_of-mono _ _ (pos 1_000_000) least);
      to = subst (λ (z : ℤ). quo_of sum (pos 1_000_000) ≤ℤ z) (quo_of-exact (pos 100_000_000_000) (pos 1_000_000) (lt_number tt)) (quo_of-mono _ _ (pos 1_000_000) most);
    }
