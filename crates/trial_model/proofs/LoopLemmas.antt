-- The loops over links and over nodes: what holds after so many of them, and the step to one more.
use Rattle.std.proofs.Common.{◌≡◌, ℕ, ◌+◌, ◌<◌, ◌≤◌, ℤ, pos, ◌+ℤ◌, List, length, slice_set, refl, sym, ap, ◌∙◌, arith, add-one, inl, inr}
use Rattle.std.proofs.lemmas.List.{get_or-set_same, get_or-set_other}
use Rattle.std.proofs.Math.Nat.{eq-or-lt_of_le}
use Rattle.std.specs.Int.{int_min}
use Rattle.fixed_num.specs.Sums.{below, least_below}
use Rattle.fixed_num.proofs.SignedSums.{least_next}
use Rattle.phase_law.specs.declared.values.Share.{Share}
use Rattle.phase_law.specs.declared.values.NodeNext.{NodeNext}
use Rattle.fixed_num.specs.Lists.{number}
use Rattle.trial_model.specs.Trial.{unsettled_part}

-- the flows of the first links are those of their shares, and the others are the old ones
pub record FlowsMade (share : ℕ → Share) (old flows : List ℤ) (link : ℕ) : Type 0 where
  pub made : (k : ℕ) → k < link → number flows k ≡ (share k).q
  pub left : (k : ℕ) → link ≤ k → number flows k ≡ number old k

-- each number of a list is the sum of the parts of the first links
pub record SumsMade (part : ℕ → ℕ → ℕ) (sums : List ℤ) (link : ℕ) : Type 0 where
  pub each : (n : ℕ) → number sums n ≡ pos (below (λ k. part k n) link)

-- the heads of the first nodes are their next heads, and the unsettled ones of them are counted
pub record HeadsMade (next : ℕ → NodeNext) (heads : List ℤ) (unsettled node : ℕ) : Type 0 where
  pub made : (k : ℕ) → k < node → number heads k ≡ (next k).head
  pub count : unsettled ≡ below (λ n. unsettled_part (next n).settled) node
  pub few : unsettled ≤ node

-- a write at place i
pub number_same : (list : List ℤ) (i : ℕ) (v : ℤ) → i < length list → number (slice_set list i v) i ≡ v
number_same list i v h = get_or-set_same list i v (pos 0) h

pub number_other : (list : List ℤ) (i k : ℕ) (v : ℤ) → ¬ (k ≡ i) → number (slice_set list i v) k ≡ number list k
number_other list i k v differ = get_or-set_other list i k v (pos 0) differ

pub flows_more : {share : ℕ → Share} {old flows : List ℤ} {link : ℕ} → FlowsMade share old flows link → (q : ℤ)
    → link < length flows → q ≡ (share link).q → FlowsMade share old (slice_set flows link q) (link + 1)
flows_more {share} {old} {flows} {link} f q h e = record {
  made = λ k below.
      let few : k ≤ link = omega arith in
      elim (eq-or-lt_of_le few) [
        | inl same ↦ rw same (number_same flows link q h ∙ e)
        | inr less ↦ number_other flows link k q (λ s. omega arith) ∙ f.made k less
      ];
  left = λ k past. number_other flows link k q (λ s. omega arith) ∙ f.left k (omega arith);
}

pub sums_more : {part : ℕ → ℕ → ℕ} {old : List ℤ} {link : ℕ} → SumsMade part old link → (new : List ℤ) (added : ℕ → ℕ)
    → ((n : ℕ) → number new n ≡ number old n +ℤ pos (added n)) → ((n : ℕ) → added n ≡ part link n)
    → SumsMade part new (link + 1)
sums_more {part} {old} {link} s new added grown same = record {
  each = λ n. grown n ∙ rw (s.each n, same n, add-one link) refl;
}

pub heads_more : {next : ℕ → NodeNext} {heads : List ℤ} {unsettled node : ℕ} → HeadsMade next heads unsettled node
    → (head : ℤ) (one : ℕ) → node < length heads → head ≡ (next node).head → one ≡ unsettled_part (next node).settled
    → one ≤ 1 → HeadsMade next (slice_set heads node head) (unsettled + one) (node + 1)
heads_more {next} {heads} {unsettled} {node} f head one h e same most = record {
  made = λ k below.
      let few : k ≤ node = omega arith in
      elim (eq-or-lt_of_le few) [
        | inl at ↦ rw at (number_same heads node head h ∙ e)
        | inr less ↦ number_other heads node k head (λ s. omega arith) ∙ f.made k less
      ];
  count = rw (f.count, same, add-one node) refl;
  few = omega (arith, f.few);
}

-- the least time of one link more
pub least_more : (f : ℕ → ℤ) (link : ℕ) (most : ℤ) {least time new : ℤ} → least ≡ least_below most f link
    → new ≡ int_min least time → time ≡ f link → new ≡ least_below most f (link + 1)
least_more f link most {least} {time} {new} e next same =
    next ∙ ap (λ (z : ℤ). int_min z time) e ∙ ap (λ (t : ℤ). int_min (least_below most f link) t) same
    ∙ sym (least_next most f link)
