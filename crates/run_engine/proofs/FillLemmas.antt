-- Lists that are written item by item: what holds after so many of them.
use Rattle.std.proofs.Common.{◌≡◌, ℕ, ◌+◌, ◌<◌, ◌≤◌, List, length, map, sym, slice_index_or, slice_set, ◌∙◌, arith, inl, inr}
use Rattle.std.proofs.lemmas.List.{length-map, length-set, get_or-map, get_or-set_same, get_or-set_other}
use Rattle.std.proofs.lemmas.List.FromFn.{fill_by_all}
use Rattle.std.proofs.Math.Nat.{eq-or-lt_of_le}
use Rattle.fixed_num.specs.Lists.{list_of}

-- the first items of a list are given by a function, and the others are the old ones
pub record Filled {A : Type 0} (f : ℕ → A) (default : A) (old list : List A) (n : ℕ) : Type 0 where
  pub count : length list ≡ length old
  pub made : (k : ℕ) → k < n → slice_index_or list k default ≡ f k
  pub left : (k : ℕ) → n ≤ k → slice_index_or list k default ≡ slice_index_or old k default

pub filled_all : {A : Type 0} {f : ℕ → A} {default : A} {old list : List A} {n : ℕ} → Filled f default old list n → (count : ℕ)
    → length old ≡ count → count ≤ n → list ≡ list_of f count
filled_all {A} {f} {default} {old} {list} {n} filled count same all =
    fill_by_all f list count default (filled.count ∙ same) (λ k h. filled.made k (omega arith))

-- a list whose items are made of those of another
pub mapped : {A B : Type 0} (f : A → B) (xs : List A) (a : A) (b : B) → list_of (λ k. f (slice_index_or xs k a)) (length xs) ≡ map f xs
mapped f xs a b = sym (fill_by_all (λ k. f (slice_index_or xs k a)) (map f xs) (length xs) b (length-map xs f) (λ k h. get_or-map f xs k a b h))

-- one item more
pub filled_more : {A : Type 0} {f : ℕ → A} {default : A} {old list : List A} {n : ℕ} → Filled f default old list n → (x : A)
    → n < length list → x ≡ f n → Filled f default old (slice_set list n x) (n + 1)
filled_more {A} {f} {default} {old} {list} {n} filled x h e = record {
  count = length-set list n x ∙ filled.count;
  made = λ k below.
      let few : k ≤ n = omega arith in
      elim (eq-or-lt_of_le few) [
        | inl same ↦ rw same (get_or-set_same list n x default h ∙ e)
        | inr less ↦ get_or-set_other list n k x default (λ s. omega arith) ∙ filled.made k less
      ];
  left = λ k past. get_or-set_other list n k x default (λ s. omega arith) ∙ filled.left k (omega arith);
}
