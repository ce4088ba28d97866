-- Integer roots: the functions meet their relations, and only one number does.
use Rattle.std.proofs.Common.{◌≡◌, ℕ, zero, suc, ◌+◌, ◌*◌, ◌<◌, ◌≤◌, Bool, true, false, cond, leb, ℤ, pos, negsuc, ◌≤ℤ◌, unsigned_abs, refl, ap, inl, inr, arith}
use Rattle.std.proofs.lemmas.Bool.{cases_lt, le-leb, leb-true}
use Rattle.std.proofs.lemmas.Int.{ints}
use Rattle.std.proofs.lemmas.Nat.{mul-le}
use Rattle.fixed_num.specs.Roots.{IsRoot2, IsRoot3, greatest, root2_of, root3_of}

-- ---- the greatest number that passes a test
greatest_passes : (p : ℕ → Bool) (n : ℕ) → p 0 ≡ true → p (greatest p n) ≡ true
greatest_passes p zero h = h
greatest_passes p (suc n) h = by (p (suc n)) refl (greatest_passes p n h)
  where
    by : (t : Bool) → p (suc n) ≡ t → p (greatest p n) ≡ true → p (cond t (suc n) (greatest p n)) ≡ true
    by true e k = e
    by false e k = k

greatest_most : (p : ℕ → Bool) (n m : ℕ) → m ≤ n → p m ≡ true → m ≤ greatest p n
greatest_most p zero m h k = h
greatest_most p (suc n) m h k = by (p (suc n)) refl (λ low. greatest_most p n m low k)
  where
    by : (t : Bool) → p (suc n) ≡ t → (m ≤ n → m ≤ greatest p n) → m ≤ cond t (suc n) (greatest p n)
    by true e f = h
    by false e f = elim (cases_lt n m) [
      | inl above ↦ let same : m ≡ suc n = omega arith in absurd (cc (ap p same, e, k))
      | inr low ↦ f low
    ]

-- ---- squares and cubes keep the order
pub square_order : (r s : ℕ) → r * r < (s + 1) * (s + 1) → r ≤ s
square_order r s h = elim (cases_lt s r) [ inl above ↦ absurd (omega (arith, mul-le (s + 1) (s + 1) r r (omega arith) (omega arith))) | inr low ↦ low ]

pub cube_le : (r s : ℕ) → r ≤ s → r * r * r ≤ s * s * s
cube_le r s h = mul-le (r * r) r (s * s) s (mul-le r r s s h h) h

pub cube_order : (r s : ℕ) → r * r * r < (s + 1) * (s + 1) * (s + 1) → r ≤ s
cube_order r s h = elim (cases_lt s r) [ inl above ↦ absurd (omega (arith, cube_le (s + 1) r (omega arith))) | inr low ↦ low ]

self_square : (r : ℕ) → r ≤ r * r
self_square zero = omega arith
self_square (suc r) = omega arith

self_cube : (r : ℕ) → r ≤ r * r * r
self_cube zero = omega arith
self_cube (suc r) = omega arith

-- ---- square roots
pub IsRoot2-made : (a r : ℕ) → r * r ≤ a → a < (r + 1) * (r + 1) → IsRoot2 (pos a) (pos r)
IsRoot2-made a r low high = record { from_zero = omega (arith, ints); at_most = omega (arith, ints); below_next = omega (arith, ints) }

pub IsRoot2-root2_of : (a : ℤ) → pos 0 ≤ℤ a → IsRoot2 a (root2_of a)
unfolding root2_of
IsRoot2-root2_of (negsuc a) h = absurd h.le
IsRoot2-root2_of (pos a) h =
    let passes : ℕ → Bool = λ r. leb (r * r) a in
    let g = greatest passes a in
    let low : g * g ≤ a = leb-true (g * g) a (greatest_passes passes a (le-leb (0 * 0) a (omega arith))) in
    let high : a < (g + 1) * (g + 1) = elim (cases_lt a ((g + 1) * (g + 1))) [
      | inl less ↦ less
      | inr more ↦ absurd (omega (arith, greatest_most passes a (g + 1) (omega (arith, self_square (g + 1))) (le-leb ((g + 1) * (g + 1)) a more)))
    ] in
    IsRoot2-made a g low high

pub IsRoot2-unique : (a r s : ℤ) → IsRoot2 a r → IsRoot2 a s → r ≡ s
IsRoot2-unique a (negsuc r) s h k = absurd h.from_zero.le
IsRoot2-unique a (pos r) (negsuc s) h k = absurd k.from_zero.le
IsRoot2-unique a (pos r) (pos s) h k =
    let one : r * r < (s + 1) * (s + 1) = omega (arith, ints, h.at_most, k.below_next) in
    let two : s * s < (r + 1) * (r + 1) = omega (arith, ints, k.at_most, h.below_next) in
    ap pos (omega (arith, square_order r s one, square_order s r two))

pub root2_of-is : (a r : ℕ) → r * r ≤ a → a < (r + 1) * (r + 1) → pos r ≡ root2_of (pos a)
root2_of-is a r low high = IsRoot2-unique (pos a) (pos r) (root2_of (pos a)) (IsRoot2-made a r low high) (IsRoot2-root2_of (pos a) (omega (arith, ints)))

pub root2_of-abs : (a : ℤ) (n r : ℕ) → pos 0 ≤ℤ a → n ≡ unsigned_abs a → r * r ≤ n → n < (r + 1) * (r + 1) → pos r ≡ root2_of a
root2_of-abs (negsuc a) n r h e low high = absurd h.le
root2_of-abs (pos a) n r h e low high = root2_of-is a r (omega arith) (omega arith)

-- ---- cube roots
pub IsRoot3-made : (a r : ℕ) → r * r * r ≤ a → a < (r + 1) * (r + 1) * (r + 1) → IsRoot3 (pos a) (pos r)
IsRoot3-made a r low high = record { from_zero = omega (arith, ints); at_most = omega (arith, ints); below_next = omega (arith, ints) }

pub IsRoot3-root3_of : (a : ℤ) → pos 0 ≤ℤ a → IsRoot3 a (root3_of a)
unfolding root3_of
IsRoot3-root3_of (negsuc a) h = absurd h.le
IsRoot3-root3_of (pos a) h =
    let passes : ℕ → Bool = λ r. leb (r * r * r) a in
    let g = greatest passes a in
    let low : g * g * g ≤ a = leb-true (g * g * g) a (greatest_passes passes a (le-leb (0 * 0 * 0) a (omega arith))) in
    let high : a < (g + 1) * (g + 1) * (g + 1) = elim (cases_lt a ((g + 1) * (g + 1) * (g + 1))) [
      | inl less ↦ less
      | inr more ↦ absurd (omega (arith, greatest_most passes a (g + 1) (omega (arith, self_cube (g + 1))) (le-leb ((g + 1) * (g + 1) * (g + 1)) a more)))
    ] in
    IsRoot3-made a g low high

pub IsRoot3-unique : (a r s : ℤ) → IsRoot3 a r → IsRoot3 a s → r ≡ s
IsRoot3-unique a (negsuc r) s h k = absurd h.from_zero.le
IsRoot3-unique a (pos r) (negsuc s) h k = absurd k.from_zero.le
IsRoot3-unique a (pos r) (pos s) h k =
    let one : r * r * r < (s + 1) * (s + 1) * (s + 1) = omega (arith, ints, h.at_most, k.below_next) in
    let two : s * s * s < (r + 1) * (r + 1) * (r + 1) = omega (arith, ints, k.at_most, h.below_next) in
    ap pos (omega (arith, cube_order r s one, cube_order s r two))

pub root3_of-is : (a r : ℕ) → r * r * r ≤ a → a < (r + 1) * (r + 1) * (r + 1) → pos r ≡ root3_of (pos a)
root3_of-is a r low high = IsRoot3-unique (pos a) (pos r) (root3_of (pos a)) (IsRoot3-made a r low high) (IsRoot3-root3_of (pos a) (omega (arith, ints)))

pub root3_of-abs : (a : ℤ) (n r : ℕ) → pos 0 ≤ℤ a → n ≡ unsigned_abs a → r * r * r ≤ n → n < (r + 1) * (r + 1) * (r + 1) → pos r ≡ root3_of a
root3_of-abs (negsuc a) n r h e low high = absurd h.le
root3_of-abs (pos a) n r h e low high = root3_of-is a r (omega arith) (omega arith)

pub root2_at : (a : ℕ) → (r : ℕ) × ((root2_of (pos a) ≡ pos r) × (r * r ≤ a) × (a < (r + 1) * (r + 1)))
root2_at a = by (root2_of (pos a)) refl (IsRoot2-root2_of (pos a) (omega (arith, ints)))
  where
    by : (z : ℤ) → root2_of (pos a) ≡ z → IsRoot2 (pos a) z → (r : ℕ) × ((root2_of (pos a) ≡ pos r) × (r * r ≤ a) × (a < (r + 1) * (r + 1)))
    by (pos r) e h = (r, (e, omega (arith, ints, h.at_most), omega (arith, ints, h.below_next)))
    by (negsuc r) e h = absurd h.from_zero.le

pub root2_of-none : (a : ℕ) → root2_of (negsuc a) ≡ pos 0
unfolding root2_of
root2_of-none a = refl

pub root3_at : (a : ℕ) → (r : ℕ) × ((root3_of (pos a) ≡ pos r) × (r * r * r ≤ a) × (a < (r + 1) * (r + 1) * (r + 1)))
root3_at a = by (root3_of (pos a)) refl (IsRoot3-root3_of (pos a) (omega (arith, ints)))
  where
    by : (z : ℤ) → root3_of (pos a) ≡ z → IsRoot3 (pos a) z → (r : ℕ) × ((root3_of (pos a) ≡ pos r) × (r * r * r ≤ a) × (a < (r + 1) * (r + 1) * (r + 1)))
    by (pos r) e h = (r, (e, omega (arith, ints, h.at_most), omega (arith, ints, h.below_next)))
    by (negsuc r) e h = absurd h.from_zero.le

pub root3_of-none : (a : ℕ) → root3_of (negsuc a) ≡ pos 0
unfolding root3_of
root3_of-none a = refl
