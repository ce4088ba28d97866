-- Rows of 201 numbers, and how a loop fills them.
use Rattle.std.proofs.Common.{◌≡◌, ℕ, ◌+◌, ◌<◌, ◌≤◌, List, length, set, replicate, ℤ, pos, sym, subst, ◌∙◌, arith}
use Rattle.std.proofs.lemmas.List.{length-set, length-replicate}
use Rattle.std.proofs.lemmas.List.Edits.{fill_by_more}
use Rattle.std.proofs.lemmas.List.FromFn.{fill_by_all, get_or-map-range_with_len, length-map-range_with_len}
use Rattle.xsect_tables.specs.SectionTable.{entry, row_of}

-- a row of 201 numbers, of which the first n are those of f
pub record Filled (f : ℕ → ℤ) (row : List ℤ) (n : ℕ) : Type 0 where
  pub count : length row ≡ 201
  pub each : (k : ℕ) → k < n → entry row k ≡ f k

pub filled_none : (f : ℕ → ℤ) → Filled f (replicate 201 (pos 0)) 0
filled_none f = record { count = length-replicate 201 (pos 0); each = λ k h. absurd (omega (arith, h)) }

pub filled_first : (f : ℕ → ℤ) → f 0 ≡ pos 0 → Filled f (replicate 201 (pos 0)) 1
filled_first f e = record {
  count = length-replicate 201 (pos 0);
  each = λ k h. let first : 0 ≡ k = omega (arith, h) in subst (λ (z : ℕ). entry (replicate 201 (pos 0)) z ≡ f z) first (sym e);
}

pub filled_more : (f : ℕ → ℤ) (row : List ℤ) (i : ℕ) (v : ℤ) → i < 201 → Filled f row i → v ≡ f i → Filled f (set row i v) (i + 1)
filled_more f row i v h filled e = record {
  count = length-set row i v ∙ filled.count;
  each = subst (λ (z : ℤ). (k : ℕ) → k < i + 1 → entry (set row i z) k ≡ f k) (sym e) (fill_by_more f row i (pos 0) (omega (arith, filled.count)) filled.each);
}

pub filled_all : (f : ℕ → ℤ) (row : List ℤ) (n : ℕ) → 201 ≤ n → Filled f row n → row ≡ row_of f
unfolding row_of
filled_all f row n h filled = fill_by_all f row 201 (pos 0) filled.count (λ k m. filled.each k (omega arith))

pub entry-row_of : (f : ℕ → ℤ) (k : ℕ) → k ≤ 200 → entry (row_of f) k ≡ f k
unfolding row_of
entry-row_of f k h = get_or-map-range_with_len f 0 201 k k (pos 0) (omega arith) (omega arith)

long : (f : ℕ → ℤ) → length (row_of f) ≡ 201
unfolding row_of
long f = length-map-range_with_len f 0 201

-- a row of which the last number alone is another
pub last_changed : (f g : ℕ → ℤ) (v : ℤ) → ((k : ℕ) → k < 200 → f k ≡ g k) → v ≡ g 200 → set (row_of f) 200 v ≡ row_of g
last_changed f g v same last =
    let most : Filled g (row_of f) 200 = record { count = long f; each = λ k h. entry-row_of f k (omega (arith, h)) ∙ same k h } in
    filled_all g (set (row_of f) 200 v) 201 (omega arith) (filled_more g (row_of f) 200 v (omega arith) most last)
