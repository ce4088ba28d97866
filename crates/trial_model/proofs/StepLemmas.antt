-- The end of a routing step: there is one, and no other.
use Rattle.std.proofs.Common.{◌≡◌, ℕ, zero, suc, ◌+◌, ◌<◌, ◌≤◌, Bool, true, false, eqb, if◌then◌else◌, refl, sym, ap, subst, ◌∙◌, arith, inl, inr}
use Rattle.std.proofs.Math.Nat.{eq-or-lt_of_le}
use Rattle.std.proofs.lemmas.Bool.{eqb-true, eq-eqb}
use Rattle.phase_law.specs.Law.{Law}
use Rattle.trial_model.specs.declared.nets.Nets.{Nets}
use Rattle.trial_model.specs.declared.step.StepEnd.{StepEnd}
use Rattle.trial_model.specs.Trial.{trial, unsettled_in}
use Rattle.trial_model.proofs.TrialLemmas.{trials_none, trials_more, after_more}
use Rattle.trial_model.specs.RoutingStep.{trials, unsettled_after, IsEnd, end_from, end_of}

-- two ends of equal parts
same_end : (t u : ℕ) (x y : Bool) → t ≡ u → x ≡ y
    → ◌≡◌ {A = StepEnd} (record { trials = t; settled = x }) (record { trials = u; settled = y })
same_end t u x y same settled = cc

module _ (law : Law) (s : Nets) where
  choose : (k left : ℕ) → 2 ≤ k → ((j : ℕ) → 2 ≤ j → j < k → ¬ (unsettled_after law s j ≡ 0)) → (b : Bool)
      → eqb (unsettled_after law s k) 0 ≡ b → (b ≡ false → IsEnd law s (k + suc left) (end_from law s (suc k) left))
      → IsEnd law s (k + suc left) (if b then record { trials = k; settled = true } else end_from law s (suc k) left)
  choose k left h before true e further = record {
    some = omega arith;
    few = omega arith;
    before = before;
    settled = λ _. (h, eqb-true _ _ e);
    unsettled = λ off. cc;
  }
  choose k left h before false e further = further refl

  from_end : (left k : ℕ) → 2 ≤ k → ((j : ℕ) → 2 ≤ j → j < k → ¬ (unsettled_after law s j ≡ 0))
      → IsEnd law s (k + left) (end_from law s k left)
  from_end zero k h before =
      let none : k + 0 ≡ k = omega arith in
      rw none record {
        some = omega arith;
        few = omega arith;
        before = before;
        settled = λ on. (h, eqb-true _ _ on);
        unsettled = λ off. (refl, λ _ e. let on : eqb (unsettled_after law s k) 0 ≡ true = eq-eqb _ _ e in cc);
      }
  from_end (suc left) k h before =
      choose k left h before (eqb (unsettled_after law s k) 0) refl
      (λ off.
      let further : (j : ℕ) → 2 ≤ j → j < suc k → ¬ (unsettled_after law s j ≡ 0) =
      λ j least less e. still k j (before j least) off less e in
      let moved : k + suc left ≡ suc k + left = omega arith in
      rw moved (from_end left (suc k) (omega arith) further))
    where
      still : (k j : ℕ) → (j < k → ¬ (unsettled_after law s j ≡ 0)) → eqb (unsettled_after law s k) 0 ≡ false → j < suc k
          → unsettled_after law s j ≡ 0 → ⊥
      still k j before off less e =
          let few : j ≤ k = omega arith in
          elim (eq-or-lt_of_le few) [
            | inl same ↦
                let none : unsettled_after law s k ≡ 0 = subst (λ (m : ℕ). unsettled_after law s m ≡ 0) same e in
                let on : eqb (unsettled_after law s k) 0 ≡ true = eq-eqb _ _ none in
                cc
            | inr earlier ↦ before earlier e
          ]

  -- a step of at least one trial has the end that is found by looking at trial after trial
  pub is_end : (most : ℕ) → 1 ≤ most → IsEnd law s most (end_of law s most)
  unfolding end_of
  is_end zero h = absurd (omega arith)
  is_end (suc zero) h = record {
    some = omega arith;
    few = omega arith;
    before = λ k h1 h2. absurd (omega arith);
    settled = λ on. cc;
    unsettled = λ _. (refl, λ h. absurd (omega arith));
  }
  is_end (suc (suc left)) h =
      let sum : 2 + left ≡ suc (suc left) = omega arith in
      subst (λ (m : ℕ). IsEnd law s m (end_from law s 2 left)) sum (from_end left 2 (omega arith) (λ j h1 h2. absurd (omega arith)))

  -- no end is earlier than another
  not_earlier : (most : ℕ) (a b : StepEnd) → IsEnd law s most a → IsEnd law s most b → (settled : Bool) → a.settled ≡ settled
      → a.trials < b.trials → ⊥
  not_earlier most a b ha hb true e less = let on = ha.settled e in hb.before a.trials on.0 less on.1
  not_earlier most a b ha hb false e less =
      let off = ha.unsettled e in
      let same : a.trials ≡ most = off.0 in
      let few = hb.few in
      absurd (omega arith)

  -- nor one settled and another not
  not_both : (most : ℕ) (a b : StepEnd) → IsEnd law s most a → IsEnd law s most b → a.trials ≡ b.trials → a.settled ≡ true
      → b.settled ≡ false → ⊥
  not_both most a b ha hb same on off =
      let x = ha.settled on in
      let y = hb.unsettled off in
      let t : a.trials ≡ most = same ∙ y.0 in
      y.1 (subst (λ (m : ℕ). 2 ≤ m) t x.0) (subst (λ (m : ℕ). unsettled_after law s m ≡ 0) t x.1)

  same_settled : (most : ℕ) (a b : StepEnd) → IsEnd law s most a → IsEnd law s most b → a.trials ≡ b.trials
      → (x y : Bool) → a.settled ≡ x → b.settled ≡ y → x ≡ y
  same_settled most a b ha hb same true true ea eb = refl
  same_settled most a b ha hb same true false ea eb = absurd (not_both most a b ha hb same ea eb)
  same_settled most a b ha hb same false true ea eb = absurd (not_both most b a hb ha (sym same) eb ea)
  same_settled most a b ha hb same false false ea eb = refl

  -- a step has one end at most
  pub end_unique : (most : ℕ) (a b : StepEnd) → IsEnd law s most a → IsEnd law s most b → a ≡ b
  end_unique most a b ha hb =
      let up : ¬ (a.trials < b.trials) = not_earlier most a b ha hb a.settled refl in
      let down : ¬ (b.trials < a.trials) = not_earlier most b a hb ha b.settled refl in
      let same : a.trials ≡ b.trials = omega (arith, up, down) in
      let settled : a.settled ≡ b.settled = same_settled most a b ha hb same a.settled b.settled refl refl in
      same_end a.trials b.trials a.settled b.settled same settled

-- after so many trials of a step none of them, from the second on, left all nodes settled
pub record TrialsMade (law : Law) (s state : Nets) (made : ℕ) : Type 0 where
  pub state_is : state ≡ trials law s made
  pub before : (k : ℕ) → 2 ≤ k → k ≤ made → ¬ (unsettled_after law s k ≡ 0)

pub made_none : (law : Law) (s : Nets) → TrialsMade law s s 0
made_none law s = record {
  state_is = sym (trials_none law s);
  before = λ k h1 h2. absurd (omega arith);
}

-- one trial more
module _ {law : Law} {s state new : Nets} {made unsettled : ℕ} (old : TrialsMade law s state made)
    (next : new ≡ trial law state (eqb made 0)) (count : unsettled ≡ unsettled_in law state (eqb made 0)) where
  pub state_more : new ≡ trials law s (made + 1)
  state_more = next ∙ ap (λ (t : Nets). trial law t (eqb made 0)) old.state_is ∙ sym (trials_more law s made)

  pub count_more : unsettled ≡ unsettled_after law s (made + 1)
  count_more = count ∙ ap (λ (t : Nets). unsettled_in law t (eqb made 0)) old.state_is ∙ sym (after_more law s made)

  -- that isn't the last
  pub made_more : ¬ ((2 ≤ made + 1) × (unsettled ≡ 0)) → TrialsMade law s new (made + 1)
  made_more goes = record {
    state_is = state_more;
    before = λ k least most e.
        elim (eq-or-lt_of_le most) [
          | inl same ↦
              goes (omega arith, count_more ∙ subst (λ (m : ℕ). unsettled_after law s m ≡ 0) same e)
          | inr less ↦ old.before k least (omega arith) e
        ];
  }

  -- that leaves all nodes settled
  pub made_settled : (most : ℕ) → made < most → (2 ≤ made + 1) × (unsettled ≡ 0) → IsEnd law s most (record { trials = made + 1; settled = true })
  made_settled most within done = record {
    some = omega arith;
    few = omega arith;
    before = λ k least less. old.before k least (omega arith);
    settled = λ _. (done.0, sym count_more ∙ done.1);
    unsettled = λ off. cc;
  }

-- and all trials
pub made_all : {law : Law} {s state : Nets} {most : ℕ} → TrialsMade law s state most → 1 ≤ most
    → IsEnd law s most (record { trials = most; settled = false })
made_all {law} {s} {state} {most} made some = record {
  some = some;
  few = omega arith;
  before = λ k least less. made.before k least (omega arith);
  settled = λ on. cc;
  unsettled = λ _. (refl, λ least. made.before most least (omega arith));
}
