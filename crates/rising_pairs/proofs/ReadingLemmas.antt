-- The value of a rising list of pairs at a number: what is defined is a reading, and a reading is one only.
use Rattle.std.proofs.Common.{◌≡◌, ℕ, zero, suc, ◌+◌, ◌-◌, ◌<◌, ◌≤◌, Bool, true, false, nat_eq, nat_lt, List, []}
use Rattle.std.proofs.Common.{◌∷◌, length, get_or, ℤ, pos, ◌+ℤ◌, ◌-ℤ◌, ◌*ℤ◌, ◌≤ℤ◌, ◌<ℤ◌, refl, sym, ap, ◌∙◌, subst}
use Rattle.std.proofs.Common.{arith, inl, inr}
use Rattle.std.specs.Prelude.{int_le, int_lt}
use Rattle.std.specs.List.{All}
use Rattle.std.proofs.Math.Nat.{eq-or-lt_of_le}
use Rattle.std.proofs.lemmas.Bool.Decides.{nat_tests}
use Rattle.std.proofs.lemmas.Int.{ints, by_lt_z}
use Rattle.fixed_num.specs.Interpolation.{lerp_of}
use Rattle.fixed_num.specs.Rounding.{quo_of}
use Rattle.fixed_num.specs.Ranges.{IsWithin, IsBetween}
use Rattle.fixed_num.proofs.Bounds.{quo_of-zero, between_lerp, between_within, within_both, within_minus, within_number}
use Rattle.net_types.specs.Ranges.{IsRising}
use Rattle.net_types.specs.Records.{pair_at}
use Rattle.rising_pairs.specs.FirstAbove.{first_above, IsFirstAbove}
use Rattle.rising_pairs.proofs.SearchLemmas.{first_above-parts}
use Rattle.rising_pairs.specs.Readings.{line_at, end_value, reading_of, IsReading}

-- ---- a line at its beginning, and the value at the end
nothing : (a x : ℤ) → a *ℤ (x -ℤ x) ≡ pos 0
nothing a x = let zero_is : x -ℤ x ≡ pos 0 = omega (arith, ints) in rw zero_is (omega (arith, ints))

line_begins : (from to : ℤ × ℤ) → line_at from to from.0 ≡ from.1
unfolding lerp_of
line_begins from to = rw (nothing (to.1 -ℤ from.1) from.0) (rw (quo_of-zero (to.0 -ℤ from.0)) (omega (arith, ints)))

end_at : (last : ℤ × ℤ) (key beyond : ℤ) → key ≤ℤ last.0 → end_value last key beyond ≡ last.1
end_at last key beyond h = let test : int_lt last.0 key ≡ false = grind (arith, ints) in rw test refl

end_past : (last : ℤ × ℤ) (key beyond : ℤ) → last.0 <ℤ key → end_value last key beyond ≡ beyond
end_past last key beyond h = let test : int_lt last.0 key ≡ true = grind (arith, ints) in rw test refl

-- ---- where a key stands
-- a key that is the number is the last one up to it
last_up_to : (pairs : List (ℤ × ℤ)) (key : ℤ) (place k : ℕ) → IsRising pairs → IsFirstAbove pairs key place
    → k < length pairs
    → key ≤ℤ (pair_at pairs k).0 → k < place → k ≡ place - 1
last_up_to pairs key place k r parts inside le less =
    let up : k ≤ place - 1 = omega arith in
    elim (eq-or-lt_of_le up) [
      | inl e ↦ e
      | inr before ↦
          let rises = r.each k (place - 1) before (omega (arith, parts.within)) in
          let up_to = parts.before (place - 1) (omega arith) in
          absurd (omega (arith, ints, rises, up_to, le))
    ]

-- one that isn't above the number stands before the place, one that is from the place on
stands_before : (pairs : List (ℤ × ℤ)) (key : ℤ) (place k : ℕ) → IsFirstAbove pairs key place → k < length pairs
    → (pair_at pairs k).0 ≤ℤ key → k < place
stands_before pairs key place k parts inside le =
    grind (arith, ints, parts.after k)

stands_after : (pairs : List (ℤ × ℤ)) (key : ℤ) (place k : ℕ) → IsFirstAbove pairs key place
    → key <ℤ (pair_at pairs k).0 → place ≤ k
stands_after pairs key place k parts less = grind (arith, ints, parts.before k)

-- ---- the three cases are readings
pub front_is : (pairs : List (ℤ × ℤ)) (key below beyond : ℤ) → 1 ≤ length pairs → IsFirstAbove pairs key 0
    → IsReading pairs key below beyond below
front_is pairs key below beyond some parts = record {
  at = λ k inside e. let above = parts.after k (omega arith) inside in absurd (omega (arith, ints, above, e));
  between = λ k inside less _. let above = parts.after k (omega arith) (omega arith) in
      absurd (omega (arith, ints, above, less));
  before = λ _. refl;
  after = λ less. let above = parts.after (length pairs - 1) (omega arith) (omega arith) in
      absurd (omega (arith, ints, above, less));
}

pub middle_is : (pairs : List (ℤ × ℤ)) (key below beyond : ℤ) (place : ℕ) → 1 ≤ place → place < length pairs
    → IsRising pairs → IsFirstAbove pairs key place
    → IsReading pairs key below beyond (line_at (pair_at pairs (place - 1)) (pair_at pairs place) key)
middle_is pairs key below beyond place some inner r parts = record {
  at = λ k inside e.
      let le : (pair_at pairs k).0 ≤ℤ key = omega (arith, ints, e) in
      let same = last_up_to pairs key place k r parts inside (omega (arith, ints, e))
      (stands_before pairs key place k parts inside le) in
      subst (λ (n : ℕ). line_at (pair_at pairs n) (pair_at pairs place) key ≡ (pair_at pairs k).1) same
      (subst (λ (x : ℤ). line_at (pair_at pairs k) (pair_at pairs place) x ≡ (pair_at pairs k).1) e
      (line_begins (pair_at pairs k) (pair_at pairs place)));
  between = λ k inside less more.
      let before = stands_before pairs key place k parts (omega arith) (omega (arith, ints, less)) in
      let after = stands_after pairs key place (k + 1) parts more in
      let same : place ≡ k + 1 = omega arith in
      let one_less : place - 1 ≡ k = omega arith in
      ap (λ (n : ℕ). line_at (pair_at pairs n) (pair_at pairs place) key) one_less
      ∙ ap (λ (n : ℕ). line_at (pair_at pairs k) (pair_at pairs n) key) same;
  before = λ less. let up_to = parts.before 0 (omega arith) in absurd (omega (arith, ints, up_to, less));
  after = λ less. let above = parts.after (length pairs - 1) (omega arith) (omega arith) in
      absurd (omega (arith, ints, above, less));
}

pub end_is : (pairs : List (ℤ × ℤ)) (key below beyond : ℤ) → 1 ≤ length pairs → IsRising pairs
    → IsFirstAbove pairs key (length pairs)
    → IsReading pairs key below beyond (end_value (pair_at pairs (length pairs - 1)) key beyond)
end_is pairs key below beyond some r parts = record {
  at = λ k inside e.
      let same = last_up_to pairs key (length pairs) k r parts inside (omega (arith, ints, e)) inside in
      let le : key ≤ℤ (pair_at pairs k).0 = omega (arith, ints, e) in
      subst (λ (n : ℕ). end_value (pair_at pairs n) key beyond ≡ (pair_at pairs k).1) same
      (end_at (pair_at pairs k) key beyond le);
  between = λ k inside less more. let up_to = parts.before (k + 1) inside in absurd (omega (arith, ints, up_to, more));
  before = λ less. let up_to = parts.before 0 (omega arith) in absurd (omega (arith, ints, up_to, less));
  after = λ less. end_past (pair_at pairs (length pairs - 1)) key beyond less;
}

-- the same at a place that is the list's length
pub end_at_place : (pairs : List (ℤ × ℤ)) (key below beyond : ℤ) (place : ℕ) → place ≡ length pairs → 1 ≤ length pairs
    → IsRising pairs → IsFirstAbove pairs key place
    → IsReading pairs key below beyond (end_value (pair_at pairs (place - 1)) key beyond)
end_at_place pairs key below beyond place whole some r parts =
    subst (λ (n : ℕ). IsReading pairs key below beyond (end_value (pair_at pairs (n - 1)) key beyond)) (sym whole)
    (end_is pairs key below beyond some r (subst (IsFirstAbove pairs key) whole parts))

-- ---- and what is defined
pub front_value : (pairs : List (ℤ × ℤ)) (key below beyond : ℤ) → 0 ≡ first_above pairs key
    → below ≡ reading_of pairs key below beyond
unfolding reading_of
front_value pairs key below beyond e = rw (sym e) refl

pub middle_value : (pairs : List (ℤ × ℤ)) (key below beyond : ℤ) (place : ℕ) → place ≡ first_above pairs key
    → 1 ≤ place → place < length pairs
    → line_at (pair_at pairs (place - 1)) (pair_at pairs place) key ≡ reading_of pairs key below beyond
unfolding reading_of
middle_value pairs key below beyond place e some inner =
    let none : nat_eq place 0 ≡ false = grind (arith, nat_tests) in
    let inside : nat_lt place (length pairs) ≡ true = grind (arith, nat_tests) in
    rw (sym e) (rw (none, inside) refl)

pub end_value_is : (pairs : List (ℤ × ℤ)) (key below beyond : ℤ) (place : ℕ) → place ≡ first_above pairs key
    → 1 ≤ place → length pairs ≤ place
    → end_value (pair_at pairs (place - 1)) key beyond ≡ reading_of pairs key below beyond
unfolding reading_of
end_value_is pairs key below beyond place e some outer =
    let none : nat_eq place 0 ≡ false = grind (arith, nat_tests) in
    let outside : nat_lt place (length pairs) ≡ false = grind (arith, nat_tests) in
    rw (sym e) (rw (none, outside) refl)

-- ---- a reading is one only
pub reading_unique : (pairs : List (ℤ × ℤ)) (key below beyond v w : ℤ) → 1 ≤ length pairs → IsRising pairs
    → (place : ℕ) → IsFirstAbove pairs key place
    → IsReading pairs key below beyond v → IsReading pairs key below beyond w → v ≡ w
reading_unique pairs key below beyond v w some r zero parts a b =
    let first = parts.after 0 (omega arith) (omega arith) in a.before first ∙ sym (b.before first)
reading_unique pairs key below beyond v w some r (suc p) parts a b =
    let up_to = parts.before p (omega arith) in
    by_lt_z (pair_at pairs p).0 key
    (λ less. elim (eq-or-lt_of_le parts.within) [
      | inl e ↦
          let last = subst (λ (n : ℕ). (pair_at pairs n).0 <ℤ key)
          (let same : p ≡ length pairs - 1 = omega arith in same) less in
          a.after last ∙ sym (b.after last)
      | inr inner ↦
          let inside : p + 1 < length pairs = omega arith in
          let next = parts.after (p + 1) (omega arith) inside in
          a.between p inside less next ∙ sym (b.between p inside less next)
    ])
    (λ le. let same : (pair_at pairs p).0 ≡ key = omega (arith, ints, le, up_to) in
    let inside : p < length pairs = omega (arith, parts.within) in
    a.at p inside same ∙ sym (b.at p inside same))

-- ---- a reading is no further from zero than the values that it is made of
line_within : {m : ℕ} (from to : ℤ × ℤ) (key : ℤ) → IsWithin m from.1 → IsWithin m to.1 → from.0 ≤ℤ key → key <ℤ to.0
    → IsWithin m (line_at from to key)
line_within {m} from to key p q le less =
    within_both (between_lerp (between_within p) (between_within q) (record { from = le; to = omega (arith, ints) }))
    (within_minus m) (within_number m)

end_within : {m : ℕ} (last : ℤ × ℤ) (key beyond : ℤ) → IsWithin m last.1 → IsWithin m beyond
    → IsWithin m (end_value last key beyond)
end_within {m} last key beyond p q =
    by_lt_z last.0 key
    (λ less. subst (IsWithin m) (sym (end_past last key beyond less)) q)
    (λ le. subst (IsWithin m) (sym (end_at last key beyond le)) p)

placed_within : {m : ℕ} (pairs : List (ℤ × ℤ)) (key below beyond : ℤ) → 1 ≤ length pairs
    → All (λ (pair : ℤ × ℤ). IsWithin m pair.1) pairs
    → IsWithin m below → IsWithin m beyond → (place : ℕ) → place ≡ first_above pairs key
    → IsFirstAbove pairs key place → IsWithin m (reading_of pairs key below beyond)
placed_within {m} pairs key below beyond some each low high zero e parts =
    subst (IsWithin m) (front_value pairs key below beyond e) low
placed_within {m} pairs key below beyond some each low high (suc p) e parts =
    let none : ℤ × ℤ = (pos 0, pos 0) in
    elim (eq-or-lt_of_le parts.within) [
      | inl whole ↦
          let last = end_within {m = m} (pair_at pairs (suc p - 1)) key beyond (each (suc p - 1) none (omega arith))
          high in
          subst (IsWithin m) (end_value_is pairs key below beyond (suc p) e (omega arith) (omega arith)) last
      | inr inner ↦
          let up_to = parts.before (suc p - 1) (omega arith) in
          let above = parts.after (suc p) (omega arith) inner in
          let line = line_within {m = m} (pair_at pairs (suc p - 1)) (pair_at pairs (suc p)) key
          (each (suc p - 1) none (omega arith)) (each (suc p) none inner) up_to above in
          subst (IsWithin m) (middle_value pairs key below beyond (suc p) e (omega arith) inner) line
    ]

pub reading_of-within : {m : ℕ} (pairs : List (ℤ × ℤ)) (key below beyond : ℤ) → 1 ≤ length pairs → IsRising pairs
    → All (λ (pair : ℤ × ℤ). IsWithin m pair.1) pairs
    → IsWithin m below → IsWithin m beyond → IsWithin m (reading_of pairs key below beyond)
reading_of-within {m} pairs key below beyond some r each low high =
    placed_within pairs key below beyond some each low high (first_above pairs key) refl (first_above-parts pairs key r)
