-- The states of a hotstart, brought into the ranges of their subcatchments.
use Rattle.std.proofs.Common.{◌≡◌, ℕ, zero, suc, ◌+◌, ◌<◌, ◌≤◌, List, [], ◌∷◌, ◌++◌, length, set, ℤ, pos, ◌∙◌}
use Rattle.std.proofs.Common.{refl, ap, subst, sym, arith, below_more, length-append}
use Rattle.std.proofs.lemmas.List.{get_or-set_same, get_or-set_other}
use Rattle.net_types.specs.declared.hydrology.Sub.{Sub}
use Rattle.net_types.specs.declared.project.Project.{Project}
use Rattle.runoff.specs.RunoffStep.{IsKeptState, IsSubStateUpTo, opening_of_sub, start_of_sub}
use Rattle.runoff.specs.declared.states.SubState.{SubState}
use Rattle.runoff_states.specs.RunoffStates.{AreKeptStates, AreStates, AreStatesUpTo, opening_state, start_state}
use Rattle.runoff_states.specs.RunoffStates.{state_at, sub_at}
use Rattle.runoff_states.proofs.RunLemmas.{no_state}

-- where the walk stands: the states before a place are opened
pub record Opened (project : Project) (kept states : List SubState) (place : ℕ) : Type 0 where
  pub is : (k : ℕ) → k < place → state_at states k ≡ opening_state project kept k
  pub left : (k : ℕ) → place ≤ k → state_at states k ≡ state_at kept k
  pub range : (k : ℕ) → k < place → (most : ℤ) → IsKeptState most (sub_at project.subs k) (state_at kept k)
      → IsSubStateUpTo most (sub_at project.subs k) (state_at states k)

pub record OpenedAt (project : Project) (kept after : SubState) (k : ℕ) : Type 0 where
  pub is : after ≡ opening_of_sub (sub_at project.subs k) kept
  pub range : (most : ℤ) → IsKeptState most (sub_at project.subs k) kept
      → IsSubStateUpTo most (sub_at project.subs k) after

pub opened_at : (project : Project) (sub : Sub) {old : SubState} (kept after : SubState) (k : ℕ)
    → sub ≡ sub_at project.subs k → kept ≡ old → after ≡ opening_of_sub sub kept
    → ((most : ℤ) → IsKeptState most sub kept → IsSubStateUpTo most sub after) → OpenedAt project old after k
opened_at project sub {old} kept after k e was a range = record {
  is = a ∙ ap (λ (x : Sub). opening_of_sub x kept) e ∙ ap (opening_of_sub (sub_at project.subs k)) was;
  range = λ most h.
      subst (λ (x : Sub). IsSubStateUpTo most x after) e
      (range most (subst (λ (x : Sub). IsKeptState most x kept) (sym e)
      (subst (IsKeptState most (sub_at project.subs k)) (sym was) h)));
}

pub opened_none : (project : Project) (kept : List SubState) → Opened project kept kept 0
opened_none project kept = record {
  is = λ k h. absurd (omega (arith, h));
  left = λ k h. refl;
  range = λ k h. absurd (omega (arith, h));
}

pub opened_more : {project : Project} {kept states : List SubState} {place : ℕ} → Opened project kept states place
    → (after : SubState) → place < length states → OpenedAt project (state_at kept place) after place
    → Opened project kept (set states place after) (place + 1)
opened_more {project} {kept} {states} {place} w after inside s =
    let here : state_at (set states place after) place ≡ after = get_or-set_same states place after no_state inside in
    let other : (k : ℕ) → (k ≡ place → ⊥) → state_at (set states place after) k ≡ state_at states k =
    λ k ne. get_or-set_other states place k after no_state ne in
    record {
      is = below_more (λ k. state_at (set states place after) k ≡ opening_state project kept k) place
          (λ k h. other k (λ e. absurd (omega (arith, e, h))) ∙ w.is k h) (here ∙ s.is);
      left = λ k h. other k (λ e. absurd (omega (arith, e, h))) ∙ w.left k (omega (arith, h));
      range = below_more (λ k. (most : ℤ) → IsKeptState most (sub_at project.subs k) (state_at kept k)
          → IsSubStateUpTo most (sub_at project.subs k) (state_at (set states place after) k)) place
          (λ k h most g. subst (IsSubStateUpTo most (sub_at project.subs k))
          (sym (other k (λ e. absurd (omega (arith, e, h))))) (w.range k h most g))
          (λ most g. subst (IsSubStateUpTo most (sub_at project.subs place)) (sym here) (s.range most g));
    }

-- ---- a start without a hotstart
pub record Started (project : Project) (states : List SubState) (place : ℕ) : Type 0 where
  pub count : length states ≡ place
  pub is : (k : ℕ) → k < place → state_at states k ≡ start_state project k
  pub range : (k : ℕ) → k < place → IsSubStateUpTo (pos 0) (sub_at project.subs k) (state_at states k)

at_end : (states : List SubState) (after : SubState) (n : ℕ) → length states ≡ n
    → state_at (states ++ after ∷ []) n ≡ after
at_end [] after zero h = refl
at_end [] after (suc n) h = absurd (omega (arith, h))
at_end (s ∷ ss) after zero h = absurd (omega (arith, h))
at_end (s ∷ ss) after (suc n) h = at_end ss after n (omega (arith, h))

before_end : (states : List SubState) (after : SubState) (k : ℕ) → k < length states
    → state_at (states ++ after ∷ []) k ≡ state_at states k
before_end [] after k h = absurd (omega (arith, h))
before_end (s ∷ ss) after zero h = refl
before_end (s ∷ ss) after (suc k) h = before_end ss after k (omega (arith, h))

pub started_more : {project : Project} {states : List SubState} {place : ℕ} → Started project states place
    → (sub : Sub) (after : SubState) → sub ≡ sub_at project.subs place → after ≡ start_of_sub sub
    → IsSubStateUpTo (pos 0) sub after → Started project (states ++ after ∷ []) (place + 1)
started_more {project} {states} {place} w sub after e a range =
    let here : state_at (states ++ after ∷ []) place ≡ after = at_end states after place w.count in
    record {
      count = omega (arith, length-append states (after ∷ []), w.count);
      is = below_more (λ k. state_at (states ++ after ∷ []) k ≡ start_state project k) place
          (λ k h. before_end states after k (omega (arith, h, w.count)) ∙ w.is k h)
          (here ∙ a ∙ ap start_of_sub e);
      range = below_more (λ k. IsSubStateUpTo (pos 0) (sub_at project.subs k) (state_at (states ++ after ∷ []) k)) place
          (λ k h. subst (IsSubStateUpTo (pos 0) (sub_at project.subs k))
          (sym (before_end states after k (omega (arith, h, w.count)))) (w.range k h))
          (subst (IsSubStateUpTo (pos 0) (sub_at project.subs place)) (sym here)
          (subst (λ (x : Sub). IsSubStateUpTo (pos 0) x after) e range));
    }

-- ---- the ends of both walks
pub opened_states : {project : Project} {kept states : List SubState} → Opened project kept states (length project.subs)
    → length states ≡ length project.subs → AreStates project (opening_state project kept) 0 states
opened_states w long = record { each_sub = long; is = λ k h. w.is k h }

pub opened_range : {project : Project} {kept states : List SubState} → Opened project kept states (length project.subs)
    → length states ≡ length project.subs
    → (most : ℤ) → AreKeptStates most project kept → AreStatesUpTo most project states
opened_range w long most h = record { each_sub = long; range = λ k g. w.range k g most (h.range k g) }

pub started_none : (project : Project) → Started project [] 0
started_none project = record {
  count = refl;
  is = λ k h. absurd (omega (arith, h));
  range = λ k h. absurd (omega (arith, h));
}

pub started_states : {project : Project} {states : List SubState} → Started project states (length project.subs)
    → AreStates project (start_state project) 0 states
started_states w = record { each_sub = w.count; is = λ k h. w.is k h }

pub started_range : {project : Project} {states : List SubState} → Started project states (length project.subs)
    → AreStatesUpTo (pos 0) project states
started_range w = record { each_sub = w.count; range = λ k h. w.range k h }
