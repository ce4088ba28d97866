-- A list whose items are rewritten one after another.
use Rattle.std.proofs.Common.{◌≡◌, ℕ, ◌+◌, ◌<◌, ◌≤◌, List, length, slice_index_or}
use Rattle.std.proofs.Common.{slice_set, refl, ◌∙◌, inl, inr, arith}
use Rattle.std.proofs.lemmas.List.{get_or-set_same, get_or-set_other, length-set}
use Rattle.std.proofs.Math.Nat.{eq-or-lt_of_le}

-- the first items are the new ones, and the others are the old ones
pub record Rewritten {A : Type 0} (none : A) (next : ℕ → A) (old items : List A) (n : ℕ) : Type 0 where
  pub made : (k : ℕ) → k < n → slice_index_or items k none ≡ next k
  pub left : (k : ℕ) → n ≤ k → slice_index_or items k none ≡ slice_index_or old k none
  pub count : length items ≡ length old

pub rewritten_none : {A : Type 0} (none : A) (next : ℕ → A) (old : List A) → Rewritten none next old old 0
rewritten_none none next old = record { made = λ k h. absurd (omega arith); left = λ k h. refl; count = refl }

pub rewritten_more : {A : Type 0} {none : A} {next : ℕ → A} {old items : List A} {n : ℕ} → Rewritten none next old items n → (item : A) → n < length items → item ≡ next n
    → Rewritten none next old (slice_set items n item) (n + 1)
rewritten_more {A} {none} {next} {old} {items} {n} r item h e = record {
  made = λ k below.
      let few : k ≤ n = omega arith in
      elim (eq-or-lt_of_le few) [
        | inl same ↦ rw same (get_or-set_same items n item none h ∙ e)
        | inr less ↦ get_or-set_other items n k item none (λ s. omega arith) ∙ r.made k less
      ];
  left = λ k past. get_or-set_other items n k item none (λ s. omega arith) ∙ r.left k (omega arith);
  count = length-set items n item ∙ r.count;
}
