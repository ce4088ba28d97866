-- The first pair of a rising list whose key is above a number: what the search by halving asks, and what it gives.
use Rattle.std.proofs.Common.{◌≡◌, ℕ, zero, suc, ◌+◌, ◌<◌, ◌≤◌, Bool, true, false, List, [], ◌∷◌, length, get_or, ℤ}
use Rattle.std.proofs.Common.{pos, ◌≤ℤ◌, ◌<ℤ◌, add-one, refl, sym, ap, ◌∙◌, subst, arith, inl, inr}
use Rattle.std.specs.Prelude.{int_le, int_lt}
use Rattle.std.specs.List.Sorted.{IsPartitionedBy, IsPartitionPoint}
use Rattle.std.proofs.Math.Nat.{eq-or-lt_of_le}
use Rattle.std.proofs.lemmas.Int.{ints, by_lt_z}
use Rattle.std.proofs.lemmas.List.{get_or_default}
use Rattle.net_types.specs.Ranges.{IsRising}
use Rattle.net_types.specs.Records.{pair_at}
use Rattle.rising_pairs.specs.FirstAbove.{first_above, IsFirstAbove}

-- ---- tests and facts
le_from : (a b : ℤ) → int_le a b ≡ true → a ≤ℤ b
le_from a b e = grind (arith, ints)

le_test : (a b : ℤ) → a ≤ℤ b → int_le a b ≡ true
le_test a b h = grind (arith, ints)

above_from : (a b : ℤ) → int_le a b ≡ false → b <ℤ a
above_from a b e = grind (arith, ints)

-- ---- what the search asks
-- the key at a place, at any default
key_at : (pairs : List (ℤ × ℤ)) (k : ℕ) (d : ℤ × ℤ) → k < length pairs → get_or pairs k d ≡ pair_at pairs k
key_at pairs k d inside = get_or_default pairs k d (pos 0, pos 0) inside

below_passes : (a b key : ℤ) → a <ℤ b → int_le b key ≡ true → int_le a key ≡ true
below_passes a b key less e = let h = le_from b key e in le_test a key (omega (arith, ints))

-- no key up to a number comes after one above it
pub parted : (pairs : List (ℤ × ℤ)) (key : ℤ) → IsRising pairs
    → IsPartitionedBy (λ (pair : ℤ × ℤ). int_le pair.0 key) pairs
parted pairs key r = λ i j d le inside passes.
    elim (eq-or-lt_of_le le) [
      | inl e ↦ subst (λ (n : ℕ). int_le (get_or pairs n d).0 key ≡ true) (sym e) passes
      | inr less ↦
          let here = ap (λ (p : ℤ × ℤ). int_le p.0 key) (key_at pairs j d inside) in
          let there = ap (λ (p : ℤ × ℤ). int_le p.0 key) (key_at pairs i d (omega arith)) in
          there ∙ below_passes _ _ key (r.each i j less inside) (sym here ∙ passes)
    ]

-- what it gives
pub parts_from_point : (pairs : List (ℤ × ℤ)) (key : ℤ) (place : ℕ) → place ≤ length pairs
    → IsPartitionPoint (λ (p : ℤ × ℤ). int_le p.0 key ≡ true) (λ (p : ℤ × ℤ). int_le p.0 key ≡ false) pairs place
    → IsFirstAbove pairs key place
parts_from_point pairs key place within point = record {
  within = within;
  before = λ k h. le_from _ key (point.0 k (pos 0, pos 0) (omega arith) h);
  after = λ k h inside. above_from _ key (point.1 k (pos 0, pos 0) h inside);
}

-- ---- the place is one only
at_front : (pair : ℤ × ℤ) (pairs : List (ℤ × ℤ)) (key : ℤ) (place : ℕ) → key <ℤ pair.0
    → IsFirstAbove (pair ∷ pairs) key place → place ≡ first_above (pair ∷ pairs) key
at_front pair pairs key zero less h = let test : int_lt key pair.0 ≡ true = grind (arith, ints) in rw test refl
at_front pair pairs key (suc place) less h = let first : pair.0 ≤ℤ key = h.before 0 (omega arith) in
    absurd (omega (arith, ints))

further : (pair : ℤ × ℤ) (pairs : List (ℤ × ℤ)) (key : ℤ) (place : ℕ) → pair.0 ≤ℤ key
    → IsFirstAbove (pair ∷ pairs) key (suc place) → IsFirstAbove pairs key place
further pair pairs key place le h = record {
  within = omega (arith, h.within);
  before = λ k less. h.before (suc k) (omega arith);
  after = λ k from inside. h.after (suc k) (omega arith) (omega arith);
}

pub first_above_is : (pairs : List (ℤ × ℤ)) (key : ℤ) (place : ℕ) → IsFirstAbove pairs key place
    → place ≡ first_above pairs key
first_above_is [] key place h = omega (arith, h.within)
first_above_is (pair ∷ pairs) key zero h =
    at_front pair pairs key zero (h.after 0 (omega arith) (omega arith)) h
first_above_is (pair ∷ pairs) key (suc place) h =
    let first : pair.0 ≤ℤ key = h.before 0 (omega arith) in
    let test : int_lt key pair.0 ≡ false = grind (arith, ints) in
    let rest = first_above_is pairs key place (further pair pairs key place first h) in
    rw test (omega (arith, rest))

-- the place that is defined parts a rising list
first_rises : (pair : ℤ × ℤ) (pairs : List (ℤ × ℤ)) (key : ℤ) → IsRising (pair ∷ pairs) → key <ℤ pair.0 → (k : ℕ)
    → k < length (pair ∷ pairs) → key <ℤ (pair_at (pair ∷ pairs) k).0
first_rises pair pairs key r less zero inside = less
first_rises pair pairs key r less (suc k) inside = let rises = r.each 0 (suc k) (omega arith) inside in
    omega (arith, ints, rises)

rest_rises : (pair : ℤ × ℤ) (pairs : List (ℤ × ℤ)) → IsRising (pair ∷ pairs) → IsRising pairs
rest_rises pair pairs r = record { each = λ i j less inside. r.each (suc i) (suc j) (omega arith) (omega arith) }

before_at : (pair : ℤ × ℤ) (pairs : List (ℤ × ℤ)) (key : ℤ) (place : ℕ) → pair.0 ≤ℤ key → IsFirstAbove pairs key place
    → (k : ℕ) → k < suc place → (pair_at (pair ∷ pairs) k).0 ≤ℤ key
before_at pair pairs key place le h zero less = le
before_at pair pairs key place le h (suc k) less = h.before k (omega arith)

after_at : (pair : ℤ × ℤ) (pairs : List (ℤ × ℤ)) (key : ℤ) (place : ℕ) → IsFirstAbove pairs key place → (k : ℕ)
    → suc place ≤ k → k < length (pair ∷ pairs) → key <ℤ (pair_at (pair ∷ pairs) k).0
after_at pair pairs key place h zero from inside = absurd (omega arith)
after_at pair pairs key place h (suc k) from inside = h.after k (omega arith) (omega arith)

one_further : (pair : ℤ × ℤ) (pairs : List (ℤ × ℤ)) (key : ℤ) (place : ℕ) → pair.0 ≤ℤ key
    → IsFirstAbove pairs key place → IsFirstAbove (pair ∷ pairs) key (suc place)
one_further pair pairs key place le h = record {
  within = omega (arith, h.within);
  before = before_at pair pairs key place le h;
  after = after_at pair pairs key place h;
}

pub first_above-parts : (pairs : List (ℤ × ℤ)) (key : ℤ) → IsRising pairs
    → IsFirstAbove pairs key (first_above pairs key)
first_above-parts [] key r = record {
  within = omega arith;
  before = λ k h. absurd (omega arith);
  after =
      λ k h inside. absurd (omega arith);
}
first_above-parts (pair ∷ pairs) key r =
    by_lt_z key pair.0
    (λ less. let test : int_lt key pair.0 ≡ true = grind (arith, ints) in
    rw test (record {
      within = omega arith;
      before = λ k h. absurd (omega arith);
      after =
          λ k h inside. first_rises pair pairs key r less k inside;
    }))
    (λ le. let test : int_lt key pair.0 ≡ false = grind (arith, ints) in
    rw (test, add-one) (one_further pair pairs key (first_above pairs key) le
    (first_above-parts pairs key (rest_rises pair pairs r))))
