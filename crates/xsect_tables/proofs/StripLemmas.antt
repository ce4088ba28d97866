-- Strips of a section: their sums and their sides.
use Rattle.std.proofs.Common.{◌≡◌, ℕ, zero, suc, ◌+◌, ◌*◌, ◌^◌, ◌<◌, ◌≤◌, ℤ, pos, negsuc, ◌+ℤ◌, ◌*ℤ◌, ◌≤ℤ◌, refl, ap, ◌∙◌, add-one, inl, inr, arith}
use Rattle.std.proofs.lemmas.Bool.{cases_lt}
use Rattle.std.proofs.lemmas.Int.{ints}
use Rattle.std.proofs.lemmas.Nat.{mul-le}
use Rattle.fixed_num.specs.Ranges.{IsBetween, IsWithin}
use Rattle.fixed_num.specs.Rounding.{quo_of}
use Rattle.fixed_num.proofs.Between.{product_from_zero}
use Rattle.fixed_num.proofs.Bounds.{within_root2, within_add, within_mul, within_number, root2_of-from_zero, root2_of-mono, quo_of-zero}
use Rattle.fixed_num.proofs.RootLemmas.{root2_at, square_order}
use Rattle.fixed_num.specs.Roots.{root2_of}
use Rattle.net_types.specs.declared.network.Section.{Section}
use Rattle.xsect_tables.specs.SectionTable.{grid_width, grid_area, grid_perimeter, strip_area, strip_sides, sides_of}
use Rattle.fixed_num.specs.Sums.{sum_below}

-- ---- sums
pub sum_more : (f : ℕ → ℤ) (i : ℕ) (sum next : ℤ) → sum ≡ sum_below f i → next ≡ f i → sum +ℤ next ≡ sum_below f (i + 1)
sum_more f i sum next e h = rw add-one (cc)

pub sum_between_more : (m i : ℕ) (sum next : ℤ) → IsBetween (pos 0) sum (pos (m * i)) → IsBetween (pos 0) next (pos m) → IsBetween (pos 0) (sum +ℤ next) (pos (m * (i + 1)))
sum_between_more m i sum next s n = record { from = omega (arith, ints); to = omega (arith, ints) }

pub sum_most : (m n i : ℕ) (sum : ℤ) → i ≤ n → IsBetween (pos 0) sum (pos (m * i)) → IsBetween (pos 0) sum (pos (m * n))
sum_most m n i sum h s = let k : m * i ≤ m * n = mul-le m i m n (omega arith) h in record { from = s.from; to = omega (arith, ints) }

pub sum_between : (f : ℕ → ℤ) (m n : ℕ) → ((i : ℕ) → i < n → IsBetween (pos 0) (f i) (pos m)) → IsBetween (pos 0) (sum_below f n) (pos (m * n))
sum_between f m zero each = record { from = omega (arith, ints); to = omega (arith, ints) }
sum_between f m (suc n) each =
    let below = sum_between f m n (λ i h. each i (omega (arith, h))) in
    let last = each n (omega arith) in
    record { from = omega (arith, ints); to = omega (arith, ints) }

pub area_more : (section : Section) (i : ℕ) (sum next : ℤ) → sum ≡ sum_below (strip_area section) i → next ≡ strip_area section i → quo_of (sum +ℤ next) (pos 1_000_000) ≡ grid_area section (i + 1)
unfolding grid_area
area_more section i sum next e h = ap (λ (z : ℤ). quo_of z (pos 1_000_000)) (sum_more (strip_area section) i sum next e h)

pub area_none : (section : Section) → grid_area section 0 ≡ pos 0
unfolding grid_area
area_none section = quo_of-zero (pos 1_000_000)

-- where each number of one list is at most so many times that of another, so is the sum
pub sum_times_most : (f g : ℕ → ℤ) (n : ℕ) → ((i : ℕ) → i < n → f i ≤ℤ (pos 10_000_000_000_000 *ℤ g i)) → sum_below f n ≤ℤ (pos 10_000_000_000_000 *ℤ sum_below g n)
sum_times_most f g zero each = omega (arith, ints)
sum_times_most f g (suc n) each =
    let below = sum_times_most f g n (λ i h. each i (omega (arith, h))) in
    let last = each n (omega arith) in
    omega (arith, ints, below, last)

-- sums of numbers that are not negative rise
pub sum_rises : (f : ℕ → ℤ) (i n : ℕ) → i ≤ n → ((k : ℕ) → k < n → pos 0 ≤ℤ f k) → sum_below f i ≤ℤ sum_below f n
sum_rises f i zero h each = let e : i ≡ 0 = omega (arith, h) in rw e (omega (arith, ints))
sum_rises f i (suc n) h each = elim (cases_lt i (suc n)) [
  | inl less ↦ let below = sum_rises f i n (omega (arith, less)) (λ k m. each k (omega (arith, m))) in
      let last = each n (omega arith) in
      omega (arith, ints, below, last)
  | inr same ↦ let e : i ≡ suc n = omega (arith, same, h) in rw e (omega (arith, ints))
]

pub perimeter_none : (section : Section) (bottom : ℤ) → bottom ≡ grid_width section 0 → bottom ≡ grid_perimeter section 0
unfolding grid_perimeter
perimeter_none section bottom e = let same : grid_width section 0 ≡ grid_width section 0 +ℤ pos 0 = omega (arith, ints) in e ∙ same

pub perimeter_more : (section : Section) (i : ℕ) (wet next : ℤ) → wet ≡ grid_perimeter section i → next ≡ strip_sides section i → wet +ℤ next ≡ grid_perimeter section (i + 1)
unfolding grid_perimeter
perimeter_more section i wet next e h =
    let more = sum_more (strip_sides section) i (sum_below (strip_sides section) i) next refl h in
    omega (arith, ints)

-- ---- sides
square_from_zero : (z : ℤ) → pos 0 ≤ℤ (z *ℤ z)
square_from_zero (pos n) = product_from_zero (pos n) (pos n) (omega (arith, ints)) (omega (arith, ints))
square_from_zero (negsuc n) = omega (arith, ints)

pub squares_from_zero : (rise spread : ℤ) → pos 0 ≤ℤ (pos 4 *ℤ (rise *ℤ rise) +ℤ spread *ℤ spread)
squares_from_zero rise spread = let r = square_from_zero rise in let s = square_from_zero spread in omega (arith, ints)

pub sides_between : {rise spread : ℤ} → IsWithin (2 * 10 ^ 9) rise → IsWithin (6 * 10 ^ 11) spread → IsBetween (pos 0) (sides_of rise spread) (pos (10 ^ 12))
unfolding sides_of
sides_between {rise = rise} {spread = spread} r s =
    let squares = within_add (within_mul (within_number 4) (within_mul r r)) (within_mul s s) in
    let w : IsWithin (10 ^ 12) (sides_of rise spread) = within_root2 squares tt in
    let from : pos 0 ≤ℤ sides_of rise spread = root2_of-from_zero _ in
    record { from = from; to = omega (arith, ints, w.within) }

root_of_square : (n : ℕ) → pos n ≤ℤ root2_of (pos (n * n))
root_of_square n = let r = root2_at (n * n) in omega (arith, ints, r.1.0, square_order n r.0 r.1.2)

-- sides are at least as long as they rise
pub sides_above : (rise spread : ℤ) → pos 0 ≤ℤ rise → rise ≤ℤ sides_of rise spread
unfolding sides_of
sides_above (pos n) spread h =
    let squares : pos (n * n) ≤ℤ (pos 4 *ℤ (pos n *ℤ pos n) +ℤ spread *ℤ spread) = omega (arith, ints, square_from_zero spread) in
    omega (arith, ints, root_of_square n, root2_of-mono _ _ squares)
sides_above (negsuc n) spread h = absurd h.le
