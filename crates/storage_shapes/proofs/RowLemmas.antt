-- Rows of 201 items, how a loop fills them, and sums that grow.
use Rattle.std.proofs.Common.{◌≡◌, ℕ, zero, suc, ◌+◌, ◌*◌, ◌<◌, ◌≤◌, List, length, set, replicate, slice_index_or}
use Rattle.std.proofs.Common.{ℤ, pos, ◌+ℤ◌, sym, subst, ap, ◌∙◌, add-one, arith}
use Rattle.std.proofs.lemmas.Int.{ints}
use Rattle.std.proofs.lemmas.List.{length-set, length-replicate}
use Rattle.std.proofs.lemmas.List.Edits.{fill_by_more}
use Rattle.std.proofs.lemmas.List.FromFn.{fill_by_all, get_or-map-range_with_len}
use Rattle.std.proofs.lemmas.Nat.{mul-le}
use Rattle.fixed_num.specs.Lists.{list_of}
use Rattle.fixed_num.specs.Ranges.{IsBetween}
use Rattle.fixed_num.specs.Sums.{sum_below}

-- a row of 201 items, of which the first n are those of f
pub record Filled (A : Type 0) (d : A) (f : ℕ → A) (row : List A) (n : ℕ) : Type 0 where
  pub count : length row ≡ 201
  pub each : (k : ℕ) → k < n → slice_index_or row k d ≡ f k

pub filled_none : (A : Type 0) (d : A) (f : ℕ → A) → Filled A d f (replicate 201 d) 0
filled_none A d f = record { count = length-replicate 201 d; each = λ k h. absurd (omega (arith, h)) }

pub filled_first : (A : Type 0) (d : A) (f : ℕ → A) → f 0 ≡ d → Filled A d f (replicate 201 d) 1
filled_first A d f e = record {
  count = length-replicate 201 d;
  each = λ k h.
      let first : 0 ≡ k = omega (arith, h) in
      subst (λ (z : ℕ). slice_index_or (replicate 201 d) z d ≡ f z) first (sym e);
}

pub filled_more : (A : Type 0) (d : A) (f : ℕ → A) (row : List A) (i : ℕ) (v : A) → i < 201 → Filled A d f row i → v ≡ f i
    → Filled A d f (set row i v) (i + 1)
filled_more A d f row i v h filled e = record {
  count = length-set row i v ∙ filled.count;
  each =
      subst (λ (z : A). (k : ℕ) → k < i + 1 → slice_index_or (set row i z) k d ≡ f k) (sym e)
      (fill_by_more f row i d (omega (arith, filled.count)) filled.each);
}

pub filled_all : (A : Type 0) (d : A) (f : ℕ → A) (row : List A) (n : ℕ) → 201 ≤ n → Filled A d f row n
    → row ≡ list_of f 201
filled_all A d f row n h filled = fill_by_all f row 201 d filled.count (λ k m. filled.each k (omega arith))

pub at_place : (A : Type 0) (d : A) (f : ℕ → A) (k : ℕ) → k ≤ 200 → slice_index_or (list_of f 201) k d ≡ f k
at_place A d f k h = get_or-map-range_with_len f 0 201 k k d (omega arith) (omega arith)

-- ---- sums
pub sum_more : (f : ℕ → ℤ) (i : ℕ) (sum next : ℤ) → sum ≡ sum_below f i → next ≡ f i → sum +ℤ next ≡ sum_below f (i + 1)
sum_more f i sum next e h = rw add-one (cc)

pub sum_between_more : (m i : ℕ) (sum next : ℤ) → IsBetween (pos 0) sum (pos (m * i)) → IsBetween (pos 0) next (pos m)
    → IsBetween (pos 0) (sum +ℤ next) (pos (m * (i + 1)))
sum_between_more m i sum next s n = record { from = omega (arith, ints); to = omega (arith, ints) }

pub sum_most : (m n i : ℕ) (sum : ℤ) → i ≤ n → IsBetween (pos 0) sum (pos (m * i)) → IsBetween (pos 0) sum (pos (m * n))
sum_most m n i sum h s =
    let k : m * i ≤ m * n = mul-le m i m n (omega arith) h in
    record { from = s.from; to = omega (arith, ints, s.to, k) }

pub sum_between : (f : ℕ → ℤ) (m n : ℕ) → ((i : ℕ) → i < n → IsBetween (pos 0) (f i) (pos m))
    → IsBetween (pos 0) (sum_below f n) (pos (m * n))
sum_between f m zero each = record { from = omega (arith, ints); to = omega (arith, ints) }
sum_between f m (suc n) each =
    let below = sum_between f m n (λ i h. each i (omega (arith, h))) in
    let last = each n (omega arith) in
    record { from = omega (arith, ints); to = omega (arith, ints) }
