-- The grid of heights: it begins at 0, ends at the full height, and rises at each step.
use Rattle.std.proofs.Common.{◌≡◌, ℕ, ◌+◌, ◌*◌, ◌/◌, ◌^◌, ◌<◌, ◌≤◌, ℤ, pos, negsuc, ◌+ℤ◌, ◌*ℤ◌, ◌≤ℤ◌, sym, refl, subst, arith}
use Rattle.std.proofs.lemmas.Int.{ints}
use Rattle.std.proofs.lemmas.Nat.{mul-le}
use Rattle.fixed_num.proofs.Bounds.{quo_of-mono, quo_of-exact, quo_of-from_zero, lt_number}
use Rattle.fixed_num.specs.Ranges.{IsBetween}
use Rattle.fixed_num.specs.Rounding.{quo_of, rounded}
use Rattle.xsect_tables.specs.SectionTable.{grid_height}

-- grid heights as natural numbers
pub grid : ℕ → ℕ → ℕ
grid full i = (2 * (i * full) + 200) / 400

pub grid_is : (full i : ℕ) → grid_height (pos full) i ≡ pos (grid full i)
unfolding grid_height quo_of rounded grid
grid_is full i = refl

pub grid-first : (full : ℕ) → grid full 0 ≡ 0
unfolding grid
grid-first full = omega arith

pub grid-last : (full : ℕ) → grid full 200 ≡ full
unfolding grid
grid-last full = omega arith

pub grid-mono : (full i k : ℕ) → i ≤ k → grid full i ≤ grid full k
unfolding grid
grid-mono full i k h = omega (arith, mul-le i full k full h (omega arith))

pub grid-rises : (full i : ℕ) → 1_000 ≤ full → grid full i < grid full (i + 1)
unfolding grid
grid-rises full i h = let e : (i + 1) * full ≡ i * full + full = omega arith in omega (arith, e)

-- grid height i is not above a depth of at least i parts of 200, and grid height i + 1 not below one of less than i + 1
pub grid-below : (full i y : ℕ) → i * full ≤ 200 * y → grid full i ≤ y
unfolding grid
grid-below full i y h = omega arith

pub grid-above : (full i y : ℕ) → 200 * y ≤ i * full → y ≤ grid full i
unfolding grid
grid-above full i y h = omega arith

-- ---- the same of a full height in range
pub full_is : {full : ℤ} → IsBetween (pos 1_000) full (pos (10 ^ 9)) → (n : ℕ) × (full ≡ pos n) × (1_000 ≤ n) × (n ≤ 10 ^ 9)
full_is {full = pos n} h = (n, refl, omega (arith, ints), omega (arith, ints))
full_is {full = negsuc n} h = absurd (omega (arith, ints))

pub grid_in_full : {full : ℤ} → IsBetween (pos 1_000) full (pos (10 ^ 9)) → (i : ℕ) → i ≤ 200 → IsBetween (pos 0) (grid_height full i) full
grid_in_full {full = pos n} h i most =
    let below : grid n i ≤ n = subst (λ (z : ℕ). grid n i ≤ z) (grid-last n) (grid-mono n i 200 most) in
    subst (λ (z : ℤ). IsBetween (pos 0) z (pos n)) (sym (grid_is n i)) (record { from = omega (arith, ints); to = omega (arith, ints, below) })
grid_in_full {full = negsuc n} h i most = absurd h.from.le

pub within_full : {full y : ℤ} → IsBetween (pos 1_000) full (pos (10 ^ 9)) → IsBetween (pos 0) y full → IsBetween (pos 0) y (pos (10 ^ 9))
within_full f h = record { from = h.from; to = omega (arith, ints, h.to, f.to) }

pub grid_between : {full : ℤ} → IsBetween (pos 1_000) full (pos (10 ^ 9)) → (i : ℕ) → i ≤ 200 → IsBetween (pos 0) (grid_height full i) (pos (10 ^ 9))
grid_between h i most = within_full h (grid_in_full h i most)

-- the middle of two depths up to the full height
pub middle_in_full : {full low high : ℤ} → IsBetween (pos 0) low full → IsBetween (pos 0) high full → IsBetween (pos 0) (quo_of (low +ℤ high) (pos 2)) full
middle_in_full {full} {low} {high} l h =
    let most : (low +ℤ high) ≤ℤ (full *ℤ pos 2) = omega (arith, ints, l.to, h.to) in
    let below = quo_of-mono (low +ℤ high) (full *ℤ pos 2) (pos 2) most in
    record { from = quo_of-from_zero (low +ℤ high) (pos 2) (omega (arith, ints, l.from, h.from)); to = subst (λ (z : ℤ). quo_of (low +ℤ high) (pos 2) ≤ℤ z) (quo_of-exact full (pos 2) (lt_number tt)) below }

pub grid_order : {full : ℤ} → IsBetween (pos 1_000) full (pos (10 ^ 9)) → (i k : ℕ) → i ≤ k → grid_height full i ≤ℤ grid_height full k
grid_order {full = pos n} h i k order =
    let P : ℤ → Type 0 = λ z. z ≤ℤ grid_height (pos n) k in
    let Q : ℤ → Type 0 = λ z. pos (grid n i) ≤ℤ z in
    let least : pos (grid n i) ≤ℤ pos (grid n k) = omega (arith, ints, grid-mono n i k order) in
    subst P (sym (grid_is n i)) (subst Q (sym (grid_is n k)) least)
grid_order {full = negsuc n} h i k order = absurd h.from.le
