-- Laws of rounded quotients: size, sign, order, exact quotients.
use Rattle.std.proofs.Common.{◌≡◌, ℕ, zero, suc, ◌+◌, ◌*◌, ◌/◌, ◌<◌, ◌≤◌, ℤ, pos, negsuc, ◌-ℤ◌, ◌*ℤ◌, neg_ℤ, ◌≤ℤ◌, ◌<ℤ◌, unsigned_abs, refl, sym, ap, subst, ◌∙◌, inl, inr, arith}
use borrow.Author.Differences.{neg_is}
use Rattle.std.proofs.lemmas.Bool.{cases_lt}
use Rattle.std.proofs.lemmas.Int.{ints}
use Rattle.std.proofs.lemmas.Nat.{le-div}
use Rattle.std.proofs.Math.Nat.{mul-le-mul_left, mul-le-mul_right, div-zero}
use Rattle.fixed_num.specs.Rounding.{IsNearest, rounded, quo_of}
use Rattle.fixed_num.proofs.RoundingLemmas.{rounded-near, rounded_most, rounded_le, IsNearest-quo_of, IsNearest-unique}

-- ---- size
pub quo_of-abs : (a b : ℤ) (m : ℕ) → unsigned_abs a ≤ m * unsigned_abs b → unsigned_abs (quo_of a b) ≤ m
unfolding quo_of
quo_of-abs (pos n) b m h = rounded_most n (unsigned_abs b) m h
quo_of-abs (negsuc n) b m h =
    let r = rounded (suc n) (unsigned_abs b) in
    let small = rounded_most (suc n) (unsigned_abs b) m h in
    omega (arith, ints, neg_is (pos r))

pub quo_of-no_larger : (a b : ℤ) → unsigned_abs (quo_of a b) ≤ unsigned_abs a
unfolding quo_of
quo_of-no_larger (pos n) b = rounded_le n (unsigned_abs b)
quo_of-no_larger (negsuc n) b =
    let r = rounded (suc n) (unsigned_abs b) in
    let small = rounded_le (suc n) (unsigned_abs b) in
    omega (arith, ints, neg_is (pos r))

by_smaller : (q c k n m : ℕ) → 2 * (q * c) ≤ 2 * n + c → n ≤ m → k ≤ c → 2 * (q * k) ≤ 2 * m + k
by_smaller zero c k n m h l s = omega arith
by_smaller (suc q) c k n m h l s = omega (arith, mul-le-mul_left (2 * q + 1) s)

rounded_by : (n c m k : ℕ) → n ≤ m → 0 < k → k ≤ c → rounded n c ≤ (2 * m + k) / (2 * k)
rounded_by n c m k l p s =
    let near = rounded-near n c (omega arith) in
    let small = by_smaller (rounded n c) c k n m near.0 l s in
    le-div (rounded n c) (2 * m + k) (2 * k) (omega arith) (omega arith)

-- by a divisor of at least k
pub quo_of-by : (a b : ℤ) (m k : ℕ) → unsigned_abs a ≤ m → 0 < k → k ≤ unsigned_abs b → unsigned_abs (quo_of a b) ≤ (2 * m + k) / (2 * k)
unfolding quo_of
quo_of-by (pos n) b m k l p s = rounded_by n (unsigned_abs b) m k l p s
quo_of-by (negsuc n) b m k l p s =
    let r = rounded (suc n) (unsigned_abs b) in
    let small = rounded_by (suc n) (unsigned_abs b) m k l p s in
    omega (arith, ints, neg_is (pos r))

-- ---- sign
pub quo_of-from_zero : (a b : ℤ) → pos 0 ≤ℤ a → pos 0 ≤ℤ quo_of a b
unfolding quo_of
quo_of-from_zero (pos n) b h = omega (arith, ints)
quo_of-from_zero (negsuc n) b h = absurd h.le

rounded_zero : (k : ℕ) → rounded 0 k ≡ 0
rounded_zero k = omega (arith, rounded_le 0 k)

pub quo_of-zero : (b : ℤ) → quo_of (pos 0) b ≡ pos 0
unfolding quo_of
quo_of-zero b = ap pos (rounded_zero (unsigned_abs b))

pub quo_of-to_zero : (a b : ℤ) → a ≤ℤ pos 0 → quo_of a b ≤ℤ pos 0
unfolding quo_of
quo_of-to_zero (pos zero) b h = omega (arith, ints, rounded_zero (unsigned_abs b))
quo_of-to_zero (pos (suc n)) b h = absurd (omega (arith, ints))
quo_of-to_zero (negsuc n) b h = omega (arith, ints, neg_is (pos (rounded (suc n) (unsigned_abs b))))

pub quo_of-neg : (a b : ℤ) → quo_of (neg_ℤ a) b ≡ neg_ℤ (quo_of a b)
unfolding quo_of
quo_of-neg (pos zero) b = ap pos (rounded_zero (unsigned_abs b)) ∙ ap (λ (n : ℕ). neg_ℤ (pos n)) (sym (rounded_zero (unsigned_abs b)))
quo_of-neg (pos (suc n)) b = refl
quo_of-neg (negsuc n) b = let r = rounded (suc n) (unsigned_abs b) in omega (arith, ints, neg_is (pos r), neg_is (neg_ℤ (pos r)))

-- ---- order
rounded-mono : (n m k : ℕ) → n ≤ m → rounded n k ≤ rounded m k
unfolding rounded
rounded-mono n m zero h = omega (arith, div-zero (2 * n + 0), div-zero (2 * m + 0))
rounded-mono n m (suc k) h =
    let one = rounded-near n (suc k) (omega arith) in
    let two = rounded-near m (suc k) (omega arith) in
    elim (cases_lt (rounded m (suc k)) (rounded n (suc k))) [
      | inl less ↦ absurd (more (rounded n (suc k)) (rounded m (suc k)) n m (suc k) less h one.0 two.1)
      | inr most ↦ most
    ]
  where
    more : (r s n m k : ℕ) → s < r → n ≤ m → 2 * (r * k) ≤ 2 * n + k → 2 * m + k < 2 * (s * k) + 2 * k → ⊥
    more r s n m k l h one two = omega (arith, mul-le-mul_right {m = s + 1} {n = r} k (omega arith))

pub quo_of-mono : (a b k : ℤ) → a ≤ℤ b → quo_of a k ≤ℤ quo_of b k
unfolding quo_of
quo_of-mono (pos n) (pos m) k h = omega (arith, ints, rounded-mono n m (unsigned_abs k) (omega (arith, ints)))
quo_of-mono (pos n) (negsuc m) k h = absurd h.le
quo_of-mono (negsuc n) (pos m) k h = omega (arith, ints, neg_is (pos (rounded (suc n) (unsigned_abs k))))
quo_of-mono (negsuc n) (negsuc m) k h =
    let small = rounded-mono (suc m) (suc n) (unsigned_abs k) (omega (arith, ints)) in
    omega (arith, ints, neg_is (pos (rounded (suc n) (unsigned_abs k))), neg_is (pos (rounded (suc m) (unsigned_abs k))))

-- ---- exact quotients
itself : (c b q : ℤ) → c ≡ q *ℤ b → IsNearest c b q
itself c b q e = let same : unsigned_abs (c -ℤ q *ℤ b) ≡ 0 = differ c (q *ℤ b) e in record { near = omega (arith, same); tie = λ k. omega (arith, ap unsigned_abs e) }
  where
    differ : (x y : ℤ) → x ≡ y → unsigned_abs (x -ℤ y) ≡ 0
    differ x y e = omega (arith, ints)

pub quo_of-exact : (a b : ℤ) → pos 0 <ℤ b → quo_of (a *ℤ b) b ≡ a
quo_of-exact a b h = IsNearest-unique (a *ℤ b) b (quo_of (a *ℤ b) b) a h (IsNearest-quo_of (a *ℤ b) b h) (itself (a *ℤ b) b a refl)

pub quo_of-one : (a : ℤ) → quo_of a (pos 1) ≡ a
quo_of-one a = let e : a *ℤ pos 1 ≡ a = omega (arith, ints) in subst (λ (z : ℤ). quo_of z (pos 1) ≡ a) e (quo_of-exact a (pos 1) (omega (arith, ints)))
