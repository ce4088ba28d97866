-- What a run keeps: at its beginning, and what callers see of it.
use Rattle.std.proofs.Common.{◌≡◌, ◌∙◌, ℕ, zero, suc, ◌+◌, ◌+ℤ◌, ◌<◌, true, List, length, replicate, ℤ, pos, refl, sym, ap, subst, arith}
use Rattle.std.proofs.lemmas.Int.{ints}
use Rattle.continuity.specs.Account.{account_of, floods_of}
use Rattle.continuity.specs.Run.{Running}
use Rattle.continuity.specs.StepOf.{IsBelowTops, IsStepOf}
use Rattle.link_eval.specs.Good.{IsGood}
use Rattle.link_eval.specs.Hydraulics.{hydraulics_of}
use Rattle.link_eval.specs.declared.hydraulics.Hydraulics.{Hydraulics}
use Rattle.net_types.specs.declared.account.StepAccount.{StepAccount}
use Rattle.trial_model.specs.Fits.{Fits}
use Rattle.fixed_num.specs.Lists.{number}
use Rattle.trial_model.specs.Trial.{SumsOf}
use Rattle.trial_model.specs.declared.nets.Nets.{Nets}
use Rattle.trial_model.specs.declared.step.StepEnd.{StepEnd}
use Rattle.runoff_states.specs.RunoffTimes.{steps_done}
use Rattle.run_engine.specs.Kept.{AreFloodsAt, AreRunoffsOf, IsKept, IsMomentAt, IsStateAt, IsTotalAt}
use Rattle.run_engine.specs.Progress.{IsAt}
use Rattle.run_engine.specs.Results.{account_at, end_at, floods_at, total_after}
use Rattle.project_check.specs.Faultless.{IsFaultless}
use Rattle.run_engine.specs.declared.kept.Kept.{Kept}
use Rattle.run_engine.specs.States.{RunState, length_at, moment_at, nets_at, next_nets, opening, project_law, step_end}
use Rattle.run_engine.proofs.OpeningLemmas.{opening_fits, opening_sums}
use Rattle.run_engine.proofs.OpeningTops.{opening_tops}
use Rattle.run_engine.proofs.StateLemmas.{account_is, end_is_at, floods_more, moment_more, nets_more, state_none}
use Rattle.run_engine.specs.Times.{IsRunTime, goes_on, length_of}
use Rattle.run_engine.proofs.ClockLemmas.{moment_next, steps_within}
use Rattle.run_engine.proofs.StepLemmas.{step_is}
use Rattle.run_engine.proofs.SumsLemmas.{nodes_are, links_are}
use Rattle.run_engine.proofs.OutfallLemmas.{outfalls_are}
use Rattle.run_engine.proofs.SubLemmas.{subs_are}
use Rattle.run_engine.specs.declared.start.Start.{Start}
use Rattle.run_engine.specs.Hot.{IsHotFor}
use Rattle.hotstart.specs.declared.state.HotState.{HotState}
use Rattle.std.specs.Prelude.{IfSome}

-- what callers see of a run that keeps these
pub total_is : (start : Start) (k : ℕ) (running : Running) → IsTotalAt start k running → running.total ≡ total_after start k
total_is start k running at = rw at.steps at at.total.total

pub kept_at : {start : Start} {h : Hydraulics} {kept : Kept} {last : HotState} → IsKept start h kept
    → IsAt (record { start = start; nets = kept.nets; total = kept.total.total; nodes = kept.sums.nodes; links = kept.sums.links; outfalls = kept.outfalls.outfalls; subs = kept.subs.subs; counts = kept.counts; last = last }) kept.counts.steps
kept_at {start} {h} {kept} {last} is = record {
  ready = is.ready;
  within = steps_within is.clock;
  nets = is.now.same;
  total = total_is start kept.counts.steps kept.total is.totalled;
  nodes = nodes_are start kept.counts.steps kept.sums is.summed;
  links = links_are start kept.counts.steps kept.sums is.summed;
  outfalls = outfalls_are start kept.counts.steps kept.outfalls is.loaded;
  subs = subs_are start kept.counts.steps kept.subs (subst (λ (z : ℤ). AreRunoffsOf start (steps_done start.project.options.wet_ms z) kept.subs) is.clock.same is.rained);
  counts = is.counted.same;
}

-- two states that follow one another belong together
pub states_step : (start : Start) (h : Hydraulics) (k : ℕ) (before after : Nets) (ms : ℤ) → h ≡ hydraulics_of start.project → IsStateAt start k before → IsStateAt start (k + 1) after
    → ms ≡ length_at start k → IsStepOf h before after ms
states_step start h k before after ms law at next length = rw (law, at.same, next.same, length, nets_more start k) (step_is start (moment_at start (k + 1)) (length_at start k) (nets_at start k))

-- the account of the step between them
pub account_here : (start : Start) (h : Hydraulics) (k : ℕ) (before after : Nets) (ms : ℤ) (account : StepAccount) → h ≡ hydraulics_of start.project → IsStateAt start k before → IsStateAt start (k + 1) after
    → ms ≡ length_at start k → account ≡ account_of h before after ms → account ≡ account_at start k
account_here start h k before after ms account law at next length is = is ∙ rw (law, at.same, next.same, length) (sym (account_is start k))

-- the floods of the step to a state
pub floods_here : (start : Start) (h : Hydraulics) (k : ℕ) (after : Nets) (floods : List ℤ) → h ≡ hydraulics_of start.project → IsStateAt start (k + 1) after → floods ≡ floods_of h after → floods ≡ floods_at start (k + 1)
floods_here start h k after floods law next is = is ∙ rw (law, next.same) (sym (floods_more start k))

-- the step from a state, and how it ends
pub state_next : (start : Start) (k : ℕ) (finish ms : ℤ) (old new : Nets) → old ≡ nets_at start k → finish ≡ moment_at start (k + 1) → ms ≡ length_at start k
    → new ≡ next_nets start finish ms old → new ≡ nets_at start (k + 1)
state_next start k finish ms old new at moment length next = next ∙ rw (moment, length, at) (sym (nets_more start k))

pub end_here : (start : Start) (k : ℕ) (finish ms : ℤ) (old : Nets) (end : StepEnd) → old ≡ nets_at start k → finish ≡ moment_at start (k + 1) → ms ≡ length_at start k
    → end ≡ step_end start finish ms old → end ≡ end_at start k
end_here start k finish ms old end at moment length ended = ended ∙ rw (moment, length, at) (sym (end_is_at start k))

-- ---- the beginning
pub opening_at : (start : Start) (nets : Nets) → IsGood (hydraulics_of start.project) → IsFaultless start.project → IfSome start.hot (IsHotFor start.project) → nets ≡ opening start → IsStateAt start 0 nets
opening_at start nets good ready hot is = record {
  same = is ∙ sym (ap (λ (s : RunState). s.nets) (state_none start));
  fits = subst (Fits (project_law start.project)) (sym is) (opening_fits start good ready hot);
  sums = subst (SumsOf (project_law start.project)) (sym is) (opening_sums start);
  tops = subst (IsBelowTops (hydraulics_of start.project)) (sym is) (opening_tops start ready);
}

zero_at : (count n : ℕ) → number (replicate count (pos 0)) n ≡ pos 0
zero_at zero n = refl
zero_at (suc count) zero = refl
zero_at (suc count) (suc n) = zero_at count n

no_floods : (start : Start) → floods_at start 0 ≡ replicate (length start.project.nodes) (pos 0)
unfolding floods_at
no_floods start = refl

pub opening_floods : (start : Start) (floods : List ℤ) → floods ≡ replicate (length start.project.nodes) (pos 0) → AreFloodsAt start 0 floods
opening_floods start floods is = record {
  same = is ∙ sym (no_floods start);
  range = λ n. rw (is, zero_at (length start.project.nodes) n) (record { from = omega (arith, ints); to = omega (arith, ints) });
}

-- ---- the step from what a run keeps
module _ {start : Start} {h : Hydraulics} {kept : Kept} (is : IsKept start h kept) where
  pub length_here : {dt : ℤ} → dt ≡ length_of start.project.options kept.moment kept.nets.least → dt ≡ length_at start kept.counts.steps
  length_here e = e ∙ same kept.counts.steps kept.moment kept.nets is.clock.same is.now.same
    where
      same : (k : ℕ) (moment : ℤ) (nets : Nets) → moment ≡ moment_at start k → nets ≡ nets_at start k
          → length_of start.project.options moment nets.least ≡ length_at start k
      same k moment nets p q = rw (p, q) refl

  pub finish_here : {finish : ℤ} → finish ≡ kept.moment +ℤ length_of start.project.options kept.moment kept.nets.least → finish ≡ moment_at start (kept.counts.steps + 1)
  finish_here e = e ∙ sum is.clock.same (length_here refl) ∙ sym (moment_more start kept.counts.steps)
    where
      sum : {a b c d : ℤ} → a ≡ b → c ≡ d → a +ℤ c ≡ b +ℤ d
      sum p q = rw (p, q) refl

  pub clock_next : {finish : ℤ} → finish ≡ kept.moment +ℤ length_of start.project.options kept.moment kept.nets.least → IsRunTime start.project.options finish
      → goes_on start.project.options kept.moment ≡ true → kept.counts.steps < 50_000_000 → IsMomentAt start (kept.counts.steps + 1) finish
  clock_next e range goes few = moment_next is.clock goes few (finish_here e) range
