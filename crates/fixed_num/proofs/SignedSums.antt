-- Laws of signed sums over the first so many places.
use Rattle.std.proofs.Common.{◌≡◌, ℕ, zero, suc, ◌+◌, ◌*◌, ◌<◌, ℤ, pos, ◌≤ℤ◌, ◌+ℤ◌, ◌-ℤ◌, ◌*ℤ◌, neg_ℤ, refl, sym, ap, ◌∙◌, arith, add-one}
use borrow.Author.Differences.{up, down, sum_is_lem}
use Rattle.std.specs.Int.{int_min}
use Rattle.std.proofs.lemmas.Int.{ints, clamps}
use Rattle.fixed_num.specs.Ranges.{IsBetween}
use Rattle.fixed_num.specs.Sums.{below, sum_below, least_below}

-- one more term
pub sum_next : (f : ℕ → ℤ) (n : ℕ) → sum_below f (n + 1) ≡ sum_below f n +ℤ f n
sum_next f n = rw add-one refl

-- two functions that agree below n have equal sums
pub sum_same : (f g : ℕ → ℤ) (n : ℕ) → ((k : ℕ) → k < n → f k ≡ g k) → sum_below f n ≡ sum_below g n
sum_same f g zero same = refl
sum_same f g (suc n) same =
    let before : sum_below f n ≡ sum_below g n = sum_same f g n (λ k h. same k (omega arith)) in
    let here : f n ≡ g n = same n (omega arith) in
    cc

-- the sum of nothing, of sums, of opposites
pub sum_zero : (n : ℕ) → sum_below (λ _. pos 0) n ≡ pos 0
sum_zero zero = refl
sum_zero (suc n) = omega (arith, ints, sum_zero n)

pub sum_plus : (f g : ℕ → ℤ) (n : ℕ) → sum_below (λ k. f k +ℤ g k) n ≡ sum_below f n +ℤ sum_below g n
sum_plus f g zero = refl
sum_plus f g (suc n) = omega (arith, ints, sum_plus f g n)

pub sum_minus : (f g : ℕ → ℤ) (n : ℕ) → sum_below (λ k. f k -ℤ g k) n ≡ sum_below f n -ℤ sum_below g n
sum_minus f g zero = refl
sum_minus f g (suc n) = omega (arith, ints, sum_minus f g n)

pub sum_neg : (f : ℕ → ℤ) (n : ℕ) → sum_below (λ k. neg_ℤ (f k)) n ≡ neg_ℤ (sum_below f n)
sum_neg f zero = refl
sum_neg f (suc n) = omega (arith, ints, sum_neg f n)

-- a sum of numbers that aren't negative
pub sum_pos : (f : ℕ → ℕ) (n : ℕ) → sum_below (λ k. pos (f k)) n ≡ pos (below f n)
sum_pos f zero = refl
sum_pos f (suc n) = omega (arith, ints, sum_pos f n)

-- a factor
pub times_plus : (h a b : ℤ) → h *ℤ (a +ℤ b) ≡ h *ℤ a +ℤ h *ℤ b
times_plus h a b =
    let e = sum_is_lem a b in
    omega (arith, ints, ap (λ (x : ℕ). up h * x) e, ap (λ (x : ℕ). down h * x) e)

pub times_zero : (h : ℤ) → pos 0 ≡ h *ℤ pos 0
times_zero h = omega (arith, ints)

pub sum_times : (h : ℤ) (f : ℕ → ℤ) (n : ℕ) → sum_below (λ k. h *ℤ f k) n ≡ h *ℤ sum_below f n
sum_times h f zero = times_zero h
sum_times h f (suc n) = ap (λ (z : ℤ). z +ℤ h *ℤ f n) (sum_times h f n) ∙ sym (times_plus h (sum_below f n) (f n))

-- ---- the least of many numbers
pub least_next : (most : ℤ) (f : ℕ → ℤ) (n : ℕ) → least_below most f (n + 1) ≡ int_min (least_below most f n) (f n)
least_next most f n = rw add-one refl

pub least_same : (most : ℤ) (f g : ℕ → ℤ) (n : ℕ) → ((k : ℕ) → k < n → f k ≡ g k) → least_below most f n ≡ least_below most g n
least_same most f g zero same = refl
least_same most f g (suc n) same =
    let before : least_below most f n ≡ least_below most g n = least_same most f g n (λ k h. same k (omega arith)) in
    let here : f n ≡ g n = same n (omega arith) in
    cc

-- it is one of them or the bound, and none is less
pub least_between : (low most : ℤ) (f : ℕ → ℤ) (n : ℕ) → low ≤ℤ most → ((k : ℕ) → k < n → low ≤ℤ f k) → IsBetween low (least_below most f n) most
least_between low most f zero h each = record { from = h; to = omega (arith, ints) }
least_between low most f (suc n) h each =
    let before = least_between low most f n h (λ k less. each k (omega arith)) in
    let here : low ≤ℤ f n = each n (omega arith) in
    record { from = omega (arith, ints, clamps, before.from, here); to = omega (arith, ints, clamps, before.to) }
