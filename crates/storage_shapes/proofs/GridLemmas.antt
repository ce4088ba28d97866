-- The grid of depths: it begins at 0, ends at the full depth, and rises at each step.
use Rattle.std.proofs.Common.{◌≡◌, ℕ, zero, suc, ◌+◌, ◌*◌, ◌/◌, ◌^◌, ◌<◌, ◌≤◌, ℤ, pos, negsuc, ◌-ℤ◌, ◌≤ℤ◌, ◌<ℤ◌}
use Rattle.std.proofs.Common.{sym, refl, subst, arith}
use Rattle.std.proofs.lemmas.Int.{ints}
use Rattle.std.proofs.lemmas.Nat.{mul-le}
use Rattle.fixed_num.specs.Ranges.{IsBetween}
use Rattle.fixed_num.specs.Rounding.{quo_of, rounded}
use Rattle.storage_shapes.specs.StoreTable.{grid_depth_of}

-- grid depths as natural numbers
grid : ℕ → ℕ → ℕ
grid full i = (2 * (i * full) + 200) / 400

grid_is : (full i : ℕ) → grid_depth_of (pos full) i ≡ pos (grid full i)
unfolding grid_depth_of quo_of rounded grid
grid_is full i = refl

grid-last : (full : ℕ) → grid full 200 ≡ full
unfolding grid
grid-last full = omega arith

grid-mono : (full i k : ℕ) → i ≤ k → grid full i ≤ grid full k
unfolding grid
grid-mono full i k h = omega (arith, mul-le i full k full h (omega arith))

grid-rises : (full i : ℕ) → 1_000 ≤ full → grid full i < grid full (i + 1)
unfolding grid
grid-rises full i h = let e : (i + 1) * full ≡ i * full + full = omega arith in omega (arith, e)

-- a 200th part of the full depth, rounded
grid-step : (full i : ℕ) → full ≤ 10 ^ 9 → grid full (i + 1) ≤ grid full i + 6_000_000
unfolding grid
grid-step full i h = let e : (i + 1) * full ≡ i * full + full = omega arith in omega (arith, e, h)

pub grid_between : {full : ℤ} → IsBetween (pos 1_000) full (pos (10 ^ 9)) → (i : ℕ) → i ≤ 200
    → IsBetween (pos 0) (grid_depth_of full i) (pos (10 ^ 9))
grid_between {full = pos n} h i most =
    let below : grid n i ≤ n = subst (λ (z : ℕ). grid n i ≤ z) (grid-last n) (grid-mono n i 200 most) in
    subst (λ (z : ℤ). IsBetween (pos 0) z (pos (10 ^ 9))) (sym (grid_is n i))
    (record { from = omega (arith, ints); to = omega (arith, ints) })
grid_between {full = negsuc n} h i most = absurd h.from.le

pub grid_order : {full : ℤ} → IsBetween (pos 1_000) full (pos (10 ^ 9)) → (i k : ℕ) → i ≤ k
    → grid_depth_of full i ≤ℤ grid_depth_of full k
grid_order {full = pos n} h i k order =
    let P : ℤ → Type 0 = λ z. z ≤ℤ grid_depth_of (pos n) k in
    let Q : ℤ → Type 0 = λ z. pos (grid n i) ≤ℤ z in
    let least : pos (grid n i) ≤ℤ pos (grid n k) = omega (arith, ints, grid-mono n i k order) in
    subst P (sym (grid_is n i)) (subst Q (sym (grid_is n k)) least)
grid_order {full = negsuc n} h i k order = absurd h.from.le

pub grid_strict : {full : ℤ} → IsBetween (pos 1_000) full (pos (10 ^ 9)) → (i k : ℕ) → i < k
    → grid_depth_of full i <ℤ grid_depth_of full k
grid_strict {full = pos n} h i k order =
    let P : ℤ → Type 0 = λ z. z <ℤ grid_depth_of (pos n) k in
    let Q : ℤ → Type 0 = λ z. pos (grid n i) <ℤ z in
    let next = grid-rises n i (omega (arith, ints, h.from)) in
    let far = grid-mono n (i + 1) k (omega (arith, order)) in
    let less : pos (grid n i) <ℤ pos (grid n k) = omega (arith, ints, next, far) in
    subst P (sym (grid_is n i)) (subst Q (sym (grid_is n k)) less)
grid_strict {full = negsuc n} h i k order = absurd h.from.le

pub grid_step : {full : ℤ} → IsBetween (pos 1_000) full (pos (10 ^ 9)) → (i : ℕ)
    → (grid_depth_of full (i + 1) -ℤ grid_depth_of full i) ≤ℤ pos 6_000_000
grid_step {full = pos n} h i =
    let step = grid-step n i (omega (arith, ints, h.to)) in
    rw (grid_is n (i + 1), grid_is n i) (omega (arith, ints, step))
grid_step {full = negsuc n} h i = absurd h.from.le
