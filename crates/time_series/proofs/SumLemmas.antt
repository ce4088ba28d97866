-- Sums over the lines of inflow.
use Rattle.std.proofs.Common.{◌≡◌, ℕ, ◌+◌, ◌*◌, ◌^◌, ◌<◌, ◌≤◌, List, [], ◌∷◌, ◌++◌, length, take, get_or, ℤ, pos, ◌+ℤ◌}
use Rattle.std.proofs.Common.{refl, sym, arith}
use Rattle.std.proofs.lemmas.Int.{ints}
use Rattle.std.proofs.lemmas.List.{take_more}
use Rattle.fixed_num.specs.Ranges.{IsWithin}
use Rattle.fixed_num.specs.Sums.{sum_over}

-- one more item of a sum
sum_snoc : {A : Type 0} (f : A → ℤ) (xs : List A) (y : A) → sum_over f (xs ++ y ∷ []) ≡ sum_over f xs +ℤ f y
sum_snoc f [] y = omega (arith, ints)
sum_snoc f (x ∷ xs) y = rw (sum_snoc f xs y) (omega (arith, ints))

pub sum_more : {A : Type 0} (f : A → ℤ) (items : List A) (k : ℕ) (d : A) → k < length items
    → sum_over f (take (k + 1) items) ≡ sum_over f (take k items) +ℤ f (get_or items k d)
sum_more f items k d h = rw (take_more items k d h) (sum_snoc f (take k items) (get_or items k d))

-- where a loop over lines stands: the sum of the first ones, which is not far from 0
pub record Summed {A : Type 0} (f : A → ℤ) (items : List A) (total : ℤ) (k : ℕ) : Type 0 where
  pub value : total ≡ sum_over f (take k items)
  pub range : IsWithin (10 ^ 30 * k) total

pub summed_more : {A : Type 0} {f : A → ℤ} {items : List A} {total : ℤ} {k : ℕ} → Summed f items total k
    → (d : A) (part : ℤ) → k < length items
    → part ≡ f (get_or items k d) → IsWithin (10 ^ 30) part → Summed f items (total +ℤ part) (k + 1)
summed_more {A} {f} {items} {total} {k} s d part h e p = record {
  value = rw (s.value, e) (sym (sum_more f items k d h));
  range = record { within = omega (arith, ints, s.range.within, p.within) };
}

-- the number of lines keeps a sum small
pub sum_fits : {A : Type 0} {f : A → ℤ} {items : List A} {total : ℤ} {k : ℕ} → Summed f items total k → k ≤ 20_000
    → IsWithin (10 ^ 35) total
sum_fits s h = record { within = omega (arith, ints, s.range.within, h) }
