-- The states of a run, and what its steps come to, with one step more.
use Rattle.std.proofs.Common.{◌≡◌, ◌∙◌, ℕ, ℤ, pos, ◌+ℤ◌, ◌+◌, ◌≤◌, Bool, true, false}
use Rattle.std.proofs.Common.{if◌then◌else◌, refl, sym, ap, subst, arith, add-one}
use Rattle.continuity.specs.Account.{account_of, floods_of}
use Rattle.link_eval.specs.Hydraulics.{hydraulics_of}
use Rattle.report_writer.specs.declared.counts.RunCounts.{RunCounts}
use Rattle.trial_model.specs.declared.step.StepEnd.{StepEnd}
use Rattle.run_engine.specs.Kept.{AreCountsAt}
use Rattle.run_engine.specs.Results.{account_at, counts_after, end_at, floods_at}
use Rattle.run_engine.specs.States.{RunState, length_at, moment_at, nets_at, next_nets, next_state, opening, state, step_end}
use Rattle.run_engine.specs.declared.start.Start.{Start}

pub state_none : (start : Start) → state start 0 ≡ record { moment = pos 0; nets = opening start }
unfolding state
state_none start = refl

pub state_more : (start : Start) (k : ℕ) → state start (k + 1) ≡ next_state start (state start k)
unfolding state
state_more start k = rw (add-one k) refl

pub nets_more : (start : Start) (k : ℕ) → nets_at start (k + 1) ≡ next_nets start (moment_at start (k + 1)) (length_at start k) (nets_at start k)
nets_more start k =
    let next = state_more start k in
    ap (λ (s : RunState). s.nets) next
    ∙ ap (λ (finish : ℤ). next_nets start finish (length_at start k) (nets_at start k)) (sym (ap (λ (s : RunState). s.moment) next))

pub moment_more : (start : Start) (k : ℕ) → moment_at start (k + 1) ≡ moment_at start k +ℤ length_at start k
moment_more start k = ap (λ (s : RunState). s.moment) (state_more start k)

pub floods_more : (start : Start) (k : ℕ) → floods_at start (k + 1) ≡ floods_of (hydraulics_of start.project) (nets_at start (k + 1))
unfolding floods_at
floods_more start k = rw (add-one k) refl

pub account_is : (start : Start) (k : ℕ) → account_at start k ≡ account_of (hydraulics_of start.project) (nets_at start k) (nets_at start (k + 1)) (length_at start k)
unfolding account_at
account_is start k = refl

pub end_is_at : (start : Start) (k : ℕ) → end_at start k ≡ step_end start (moment_at start (k + 1)) (length_at start k) (nets_at start k)
unfolding end_at
end_is_at start k = refl

-- ---- counts

counts_more : (start : Start) (k : ℕ)
    → counts_after start (k + 1) ≡ record { steps = k + 1; trials = (counts_after start k).trials + (end_at start k).trials; unsettled = (counts_after start k).unsettled + (if (end_at start k).settled then 0 else 1) }
unfolding counts_after
counts_more start k = rw (add-one k) refl

one_at_most : (b : Bool) → (if b then 0 else 1) ≤ 1
one_at_most true = omega arith
one_at_most false = omega arith

same_parts : {s t u v w : ℕ} → t ≡ v → u ≡ w → ◌≡◌ {A = RunCounts} (record { steps = s; trials = t; unsettled = u }) (record { steps = s; trials = v; unsettled = w })
same_parts p q = rw (p, q) refl

pub counted_none : (start : Start) → AreCountsAt start 0 (record { steps = 0; trials = 0; unsettled = 0 })
unfolding counts_after
counted_none start = record { same = refl; trials = omega arith; unsettled = omega arith }

pub counted_more : (start : Start) (old : RunCounts) (end : StepEnd) (trials unsettled : ℕ) → AreCountsAt start old.steps old → end ≡ end_at start old.steps → end.trials ≤ 20
    → trials ≡ end.trials → unsettled ≡ (if end.settled then 0 else 1)
    → AreCountsAt start (old.steps + 1) (record { steps = old.steps + 1; trials = old.trials + trials; unsettled = old.unsettled + unsettled })
counted_more start old end trials unsettled kept is few t u =
    let one : unsettled ≤ 1 = subst (λ (x : ℕ). x ≤ 1) (sym u) (one_at_most end.settled) in
    let old_trials : old.trials ≡ (counts_after start old.steps).trials = ap (λ (c : RunCounts). c.trials) kept.same in
    let old_unsettled : old.unsettled ≡ (counts_after start old.steps).unsettled = ap (λ (c : RunCounts). c.unsettled) kept.same in
    let new_trials : trials ≡ (end_at start old.steps).trials = t ∙ ap (λ (e : StepEnd). e.trials) is in
    let new_unsettled : unsettled ≡ (if (end_at start old.steps).settled then 0 else 1) = u ∙ ap (λ (e : StepEnd). if e.settled then 0 else 1) is in
    record {
      same = same_parts (sums old_trials new_trials) (sums old_unsettled new_unsettled) ∙ sym (counts_more start old.steps);
      trials = omega (arith, kept.trials, few, t);
      unsettled = omega (arith, kept.unsettled, one);
    }
  where
    sums : {a b c d : ℕ} → a ≡ b → c ≡ d → a + c ≡ b + d
    sums p q = rw (p, q) refl
