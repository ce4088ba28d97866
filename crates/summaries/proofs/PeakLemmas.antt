-- Peaks are greatest values.
use Rattle.std.proofs.Common.{◌≡◌, ℕ, zero, suc, ◌+◌, ◌<◌, ◌≤◌, Bool, true, false}
use Rattle.std.proofs.Common.{ℤ, ◌≤ℤ◌, ◌<ℤ◌, refl, inl, inr, ◌⊎◌, arith, add-one}
use Rattle.std.specs.Prelude.{int_lt}
use Rattle.std.proofs.lemmas.Int.{ints}
use Rattle.std.proofs.Math.Nat.{eq-or-lt_of_le}
use Rattle.summaries.specs.Peaks.{Peak, IsPeak, raised, peak_of}

tested : (a b : ℤ) → int_lt a b ≡ true → a <ℤ b
tested a b h = grind (arith, ints)

refuted : (a b : ℤ) → int_lt a b ≡ false → b ≤ℤ a
refuted a b h = grind (arith, ints)

few : (k n : ℕ) → k < suc n → (k ≡ n) ⊎ (k < n)
few k n h = eq-or-lt_of_le (omega (arith, h))

-- a value above all earlier ones is the new peak
new_peak : (f moments : ℕ → ℤ) (n : ℕ) → ((k : ℕ) → k < n → f k <ℤ f n) → IsPeak f moments (suc n) (record { value = f n; at = moments n })
new_peak f moments n below = record {
  place = n;
  within = omega arith;
  has = refl;
  first = refl;
  most = λ k h. elim (few k n h) [
    | inl same ↦ rw same (omega (arith, ints))
    | inr less ↦ let b = below k less in omega (arith, ints, b)
  ];
  less = below;
}

-- a value that is not above the peak leaves it
same_peak : (f moments : ℕ → ℤ) (n : ℕ) (peak : Peak) → IsPeak f moments n peak → f n ≤ℤ peak.value → IsPeak f moments (suc n) peak
same_peak f moments n peak p least = record {
  place = p.place;
  within = omega (arith, p.within);
  has = p.has;
  first = p.first;
  most = λ k h. elim (few k n h) [
    | inl same ↦ rw same least
    | inr less ↦ p.most k less
  ];
  less = p.less;
}

-- the peak with one value more
next_peak : (f moments : ℕ → ℤ) (n : ℕ) (peak : Peak) (b : Bool) → IsPeak f moments n peak → int_lt peak.value (f n) ≡ b → IsPeak f moments (suc n) (raised peak (f n) (moments n))
next_peak f moments n peak true p e =
    let above = tested peak.value (f n) e in
    rw e (new_peak f moments n (λ k h. let m = p.most k h in omega (arith, ints, m, above)))
next_peak f moments n peak false p e = rw e (same_peak f moments n peak p (refuted peak.value (f n) e))

pub peak_is : (f moments : ℕ → ℤ) (last : ℕ) → IsPeak f moments (last + 1) (peak_of f moments last)
unfolding peak_of
peak_is f moments zero = new_peak f moments 0 (λ k h. absurd (omega arith))
peak_is f moments (suc n) =
    rw (add-one (suc n))
    (next_peak f moments (suc n) (peak_of f moments n) (int_lt (peak_of f moments n).value (f (suc n))) (rw (add-one n) at (peak_is f moments n)) refl)
