-- The quotient that is rounded to the nearest: it meets its relation, and only one number does.
use Rattle.std.proofs.Common.{◌≡◌, ℕ, zero, suc, ◌+◌, ◌-◌, ◌*◌, ◌/◌, ◌%◌, ◌<◌, ◌≤◌, ℤ, pos, negsuc, ◌+ℤ◌, ◌-ℤ◌, ◌*ℤ◌, neg_ℤ, ◌<ℤ◌, ◌≤ℤ◌, unsigned_abs, refl, sym, ap, subst, ◌⊎◌, inl, inr, ◌∙◌, arith}
use Rattle.std.proofs.lemmas.Int.{ints}
use borrow.Author.Differences.{neg_is, product_is, sum_is_lem}
use Rattle.std.proofs.lemmas.Nat.{div-add-mod', mod_below, div_below}
use Rattle.std.proofs.Math.Nat.{div-eq_of_lt-le, div-zero, mul-le-mul_left}
use Rattle.fixed_num.specs.Rounding.{IsNearest, rounded, quo_of}

-- ---- rounded, a half upwards
pub rounded-is : (n k q : ℕ) → 2 * (q * k) ≤ 2 * n + k → 2 * n + k < 2 * (q * k) + 2 * k → q ≡ rounded n k
unfolding rounded
rounded-is n k q low high = sym (div-eq_of_lt-le (2 * k) (omega arith) (omega arith))

pub rounded_up : (n k : ℕ) → 0 < k → k - n % k ≤ n % k → n / k + 1 ≡ rounded n k
rounded_up n k p h = rounded-is n k (n / k + 1) (omega (arith, div-add-mod' n k)) (omega (arith, div-add-mod' n k, mod_below n k p))

pub rounded_down : (n k : ℕ) → 0 < k → n % k < k - n % k → n / k ≡ rounded n k
rounded_down n k p h = rounded-is n k (n / k) (omega (arith, div-add-mod' n k)) (omega (arith, div-add-mod' n k, mod_below n k p))

pub rounded-near : (n k : ℕ) → 0 < k → (2 * (rounded n k * k) ≤ 2 * n + k) × (2 * n + k < 2 * (rounded n k * k) + 2 * k)
unfolding rounded
rounded-near n k p = let below : (2 * n + k) % (2 * k) < 2 * k = mod_below (2 * n + k) (2 * k) (omega arith) in
    (omega (arith, div-add-mod' (2 * n + k) (2 * k)), omega (arith, div-add-mod' (2 * n + k) (2 * k)))

-- ---- quo_of meets IsNearest
near_up : (n p k : ℕ) → 2 * p ≤ 2 * n + k → 2 * n + k < 2 * p + 2 * k → (2 * unsigned_abs (pos n -ℤ pos p) ≤ k) × (2 * unsigned_abs (pos n -ℤ pos p) ≡ k → n ≤ p)
near_up n p k low high = (omega (arith, ints), λ e. omega (arith, ints))

near_down : (n p k : ℕ) → 2 * p ≤ 2 * n + k → 2 * n + k < 2 * p + 2 * k → (2 * unsigned_abs (neg_ℤ (pos n) -ℤ neg_ℤ (pos p)) ≤ k) × (2 * unsigned_abs (neg_ℤ (pos n) -ℤ neg_ℤ (pos p)) ≡ k → n ≤ unsigned_abs (neg_ℤ (pos p)))
near_down n p k low high = (omega (arith, ints, neg_is (pos n), neg_is (pos p), neg_is (neg_ℤ (pos p))), λ e. omega (arith, ints, neg_is (pos n), neg_is (pos p), neg_is (neg_ℤ (pos p))))

neg_times : (q k : ℕ) → neg_ℤ (pos q) *ℤ pos k ≡ neg_ℤ (pos (q * k))
neg_times zero k = omega (arith, ints)
neg_times (suc q) k = refl

pub IsNearest-quo_of : (a b : ℤ) → pos 0 <ℤ b → IsNearest a b (quo_of a b)
unfolding quo_of
IsNearest-quo_of a (negsuc k) h = absurd h.lt
IsNearest-quo_of (pos n) (pos k) h =
    let at = rounded-near n k (omega (arith, ints)) in
    let facts = near_up n (rounded n k * k) k at.0 at.1 in
    record { near = facts.0; tie = facts.1 }
IsNearest-quo_of (negsuc n) (pos k) h =
    let at = rounded-near (suc n) k (omega (arith, ints)) in
    let facts = near_down (suc n) (rounded (suc n) k * k) k at.0 at.1 in
    let e = sym (neg_times (rounded (suc n) k) k) in
    record {
      near = subst (λ (z : ℤ). 2 * unsigned_abs (negsuc n -ℤ z) ≤ k) e facts.0;
      tie = subst (λ (z : ℤ). 2 * unsigned_abs (negsuc n -ℤ z) ≡ k → suc n ≤ unsigned_abs z) e facts.1;
    }

-- ---- only one number is nearest
sum_times : (p : ℤ) (k b : ℕ) → (p +ℤ pos k) *ℤ pos b ≡ p *ℤ pos b +ℤ pos (k * b)
sum_times p k b = omega (arith, ints, ap (λ (x : ℕ). x * b) (sum_is_lem p (pos k)), product_is (p +ℤ pos k) (pos b), product_is p (pos b), sum_is_lem (p *ℤ pos b) (pos (k * b)))

-- a number strictly between two neighbours has not the same size as both where both are on one side of zero
apart : (a x : ℤ) (b m : ℕ) → 0 < b → b ≤ m → (pos 0 ≤ℤ x) ⊎ ((x +ℤ pos b) ≤ℤ pos 0)
    → 2 * unsigned_abs (a -ℤ x) ≤ b → (2 * unsigned_abs (a -ℤ x) ≡ b → unsigned_abs a ≤ unsigned_abs x)
    → 2 * unsigned_abs (a -ℤ (x +ℤ pos m)) ≤ b → (2 * unsigned_abs (a -ℤ (x +ℤ pos m)) ≡ b → unsigned_abs a ≤ unsigned_abs (x +ℤ pos m)) → ⊥
apart a x b m pb bm side n1 t1 n2 t2 =
    let e1 : 2 * unsigned_abs (a -ℤ x) ≡ b = omega (arith, ints, sum_is_lem x (pos m), neg_is (x +ℤ pos m), sum_is_lem a (neg_ℤ (x +ℤ pos m))) in
    let e2 : 2 * unsigned_abs (a -ℤ (x +ℤ pos m)) ≡ b = omega (arith, ints, sum_is_lem x (pos m), neg_is (x +ℤ pos m), sum_is_lem a (neg_ℤ (x +ℤ pos m))) in
    let f1 = t1 e1 in
    let f2 = t2 e2 in
    elim side [
      | inl h ↦ omega (arith, ints, sum_is_lem x (pos m), neg_is (x +ℤ pos m), sum_is_lem a (neg_ℤ (x +ℤ pos m)))
      | inr h ↦ omega (arith, ints, sum_is_lem x (pos m), sum_is_lem x (pos b), neg_is (x +ℤ pos m), sum_is_lem a (neg_ℤ (x +ℤ pos m)))
    ]

one_side : (p : ℤ) (b : ℕ) → (pos 0 ≤ℤ (p *ℤ pos b)) ⊎ ((p *ℤ pos b +ℤ pos b) ≤ℤ pos 0)
one_side (pos n) b = inl (omega (arith, ints))
one_side (negsuc n) b = inr (omega (arith, ints, neg_is (pos (suc n * b))))

further : (a p : ℤ) (b k : ℕ) → 0 < b → IsNearest a (pos b) p → IsNearest a (pos b) (p +ℤ pos (suc k)) → ⊥
further a p b k h one two =
    let e = sum_times p (suc k) b in
    let near2 = subst (λ (z : ℤ). 2 * unsigned_abs (a -ℤ z) ≤ b) e two.near in
    let tie2 = subst (λ (z : ℤ). 2 * unsigned_abs (a -ℤ z) ≡ b → unsigned_abs a ≤ unsigned_abs z) e two.tie in
    apart a (p *ℤ pos b) b (suc k * b) h (omega arith) (one_side p b) one.near one.tie near2 tie2

pub IsNearest-unique : (a b p q : ℤ) → pos 0 <ℤ b → IsNearest a b p → IsNearest a b q → p ≡ q
IsNearest-unique a (negsuc k) p q h one two = absurd h.lt
IsNearest-unique a (pos b) p q h one two = by (q -ℤ p) refl
  where
    by : (d : ℤ) → q -ℤ p ≡ d → p ≡ q
    by (pos zero) e = omega (arith, ints)
    by (pos (suc k)) e = let same : q ≡ p +ℤ pos (suc k) = omega (arith, ints) in
        absurd (further a p b k (omega (arith, ints)) one (subst (λ (z : ℤ). IsNearest a (pos b) z) same two))
    by (negsuc k) e = let same : p ≡ q +ℤ pos (suc k) = omega (arith, ints) in
        absurd (further a q b k (omega (arith, ints)) two (subst (λ (z : ℤ). IsNearest a (pos b) z) same one))

-- ---- the sign put on at the end, as the code of `quo` does
pub rounded_most : (n k m : ℕ) → n ≤ m * k → rounded n k ≤ m
unfolding rounded
rounded_most n zero m h = omega (arith, div-zero (2 * n + 0))
rounded_most n (suc k) m h = let below : (2 * n + suc k) / (2 * suc k) < m + 1 = div_below (2 * n + suc k) (2 * suc k) (m + 1) (omega arith) (omega arith) in omega arith

pub rounded_le : (n k : ℕ) → rounded n k ≤ n
unfolding rounded
rounded_le n zero = omega (arith, div-zero (2 * n + 0))
rounded_le n (suc k) = rounded_most n (suc k) n (omega (arith, mul-le-mul_left {m = 1} {n = suc k} n (omega arith)))

pub quo_of_up : (a : ℤ) (b : ℤ) → pos 0 ≤ℤ a → quo_of a b ≡ pos (rounded (unsigned_abs a) (unsigned_abs b))
unfolding quo_of
quo_of_up (pos n) b h = refl
quo_of_up (negsuc n) b h = absurd h.le

pub quo_of_down : (a : ℤ) (b : ℤ) → a ≤ℤ pos 0 → quo_of a b ≡ neg_ℤ (pos (rounded (unsigned_abs a) (unsigned_abs b)))
unfolding quo_of
quo_of_down (pos zero) b h = let none : rounded 0 (unsigned_abs b) ≡ 0 = omega (arith, rounded_le 0 (unsigned_abs b)) in ap pos none ∙ ap (λ (n : ℕ). neg_ℤ (pos n)) (sym none)
quo_of_down (pos (suc n)) b h = absurd (omega (arith, ints))
quo_of_down (negsuc n) b h = refl
