-- The summaries of subcatchments: those of the steps of runoff that are done.
use Rattle.std.proofs.Common.{◌≡◌, ◌∙◌, ℕ, zero, suc, ◌+◌, ◌*◌, ◌<◌, ◌≤◌, List, length, replicate, ℤ, pos, negsuc, ◌+ℤ◌, ◌*ℤ◌, ◌≤ℤ◌}
use Rattle.std.proofs.Common.{refl, sym, ap, subst, arith}
use Rattle.std.proofs.lemmas.Int.{ints}
use Rattle.std.proofs.lemmas.List.{length-replicate}
use Rattle.std.proofs.lemmas.List.FromFn.{fill_by_all}
use Rattle.project_check.specs.Faultless.{IsFaultless}
use Rattle.runoff.specs.declared.states.SubState.{SubState}
use Rattle.runoff.specs.declared.states.SubStep.{SubStep}
use Rattle.run_engine.specs.Laterals.{IsRunoffAfter, TellsStep, runoff_start}
use Rattle.runoff_states.specs.RunoffStates.{runoff_state, runoff_step}
use Rattle.run_engine.specs.declared.subs.SubRunoff.{SubRunoff}
use Rattle.summaries.specs.Runoffs.{AreRunoffs, AreSmall, IsTotal, Runoffs, no_runoff, no_runoffs, runoff_of, summary_at}
use Rattle.link_eval.specs.declared.hydraulics.Hydraulics.{Hydraulics}
use Rattle.runoff_states.specs.RunoffTimes.{steps_done}
use Rattle.runoff_states.proofs.TimeLemmas.{count_done}
use Rattle.run_engine.specs.Kept.{AreRunoffsOf, IsKept}
use Rattle.fixed_num.specs.Ranges.{IsBetween}
use Rattle.run_engine.specs.Laterals.{IsRunoffAt}
use Rattle.run_engine.specs.Times.{IsRunStep}
use Rattle.run_engine.specs.declared.kept.Kept.{Kept}
use Rattle.run_engine.proofs.RunLemmas.{run_options}
use Rattle.run_engine.specs.Results.{runoff_after, runoff_steps, runoffs_done, sub_summaries, total_runoff}
use Rattle.summaries.specs.declared.sub_summary.SubSummary.{SubSummary}
use Rattle.run_engine.proofs.RunoffLemmas.{IsLastAt, run_wet}
use Rattle.run_engine.specs.declared.start.Start.{Start}

-- ---- how many steps there are
-- steps of at least a second each
thousands : (n : ℕ) (ms : ℤ) → pos 1_000 ≤ℤ ms → pos (1_000 * n) ≤ℤ (pos n *ℤ ms)
thousands zero ms h = omega (arith, ints)
thousands (suc n) ms h = omega (arith, ints, thousands n ms h, next n ms, h)
  where
    next : (k : ℕ) (x : ℤ) → pos (suc k) *ℤ x ≡ pos k *ℤ x +ℤ x
    next k (pos x) = omega (arith, ints)
    next k (negsuc x) = omega (arith, ints)

pub few_before : {start : Start} {moment : ℤ} {steps : ℕ} {runoff : SubRunoff} {runoffs : Runoffs} → IsFaultless start.project → moment ≤ℤ pos 316_224_000_000
    → IsLastAt start moment steps runoff → AreRunoffsOf start steps runoffs → runoffs.steps < 400_000_000
few_before {start} {moment} {steps} {runoff} {runoffs} r few last are =
    omega (arith, ints, thousands steps start.project.options.wet_ms (run_wet start.project r).from, last.after.begins, last.begun.to, few, are.steps_are)

pub few_done : {start : Start} {h : Hydraulics} {kept : Kept} → IsKept start h kept → steps_done start.project.options.wet_ms kept.moment ≤ 316_224_000
few_done {start} {h} {kept} is =
    let between = is.clock.range.between in
    let done = count_done start.project.options.wet_ms kept.moment (run_wet start.project is.ready) between.from in
    let last = (run_options start.project is.ready).duration.to in
    omega (arith, ints, thousands (steps_done start.project.options.wet_ms kept.moment) start.project.options.wet_ms (run_wet start.project is.ready).from, done.ended, between.to, last)

-- at the moment before a step
pub earlier_here : {start : Start} {h : Hydraulics} {kept : Kept} (finish dt : ℤ) → IsKept start h kept → finish ≡ kept.moment +ℤ dt → IsRunStep start.project.options finish dt
    → (earlier : ℤ) × IsBetween (pos 0) earlier finish × IsRunoffAt start earlier kept.runoff × AreRunoffsOf start (steps_done start.project.options.wet_ms earlier) kept.subs
earlier_here {start} {h} {kept} finish dt is e step =
    (kept.moment, record { from = is.clock.range.between.from; to = omega (arith, ints, e, step.length_in.least) }, is.runoff, is.rained)

-- ---- what a step tells
pub steps_are : (start : Start) (steps : ℕ) (runoff : SubRunoff) → TellsStep start steps runoff
    → length runoff.steps ≡ length start.project.subs → runoff.steps ≡ runoff_steps start steps
steps_are start steps runoff told places =
    fill_by_all (runoff_step start.project (runoff_start start) steps) runoff.steps (length start.project.subs)
    (record { rain = pos 0; infil = pos 0; runoff = pos 0; stored = pos 0 }) places told

pub states_are : (start : Start) (steps : ℕ) (runoff : SubRunoff)
    → IsRunoffAfter start (suc steps) runoff → runoff.states ≡ runoff_after start steps
states_are start steps runoff after =
    fill_by_all (runoff_state start.project (runoff_start start) (suc steps)) runoff.states (length start.project.subs) _
    after.states.each_sub after.states.is

-- ---- the summaries
none_of : (count k : ℕ) (made : ℕ → List SubStep) (after : ℕ → List SubState) → k < count → summary_at (replicate count no_runoff) k ≡ runoff_of made after 0 k
unfolding runoff_of
none_of zero k made after h = absurd (omega (arith, h))
none_of (suc count) k made after h = nothing (suc count) k
  where
    nothing : (n j : ℕ) → summary_at (replicate n no_runoff) j ≡ no_runoff
    nothing zero j = refl
    nothing (suc n) zero = refl
    nothing (suc n) (suc j) = nothing n j

pub runoffs_none : (start : Start) (runoffs : Runoffs) → runoffs ≡ no_runoffs start.project → AreSmall runoffs → AreRunoffsOf start 0 runoffs
runoffs_none start runoffs is small = rw is (record {
  small = subst AreSmall is small;
  steps_are = refl;
  places = length-replicate (length start.project.subs) no_runoff;
  summaries = record { each = λ k h. none_of (length start.project.subs) k (runoff_steps start) (runoff_after start) (omega (arith, h, length-replicate (length start.project.subs) no_runoff)) };
})

pub opened_runoffs : (start : Start) → IsFaultless start.project → (runoffs : Runoffs) → runoffs ≡ no_runoffs start.project → AreSmall runoffs
    → AreRunoffsOf start (steps_done start.project.options.wet_ms (pos 0)) runoffs
opened_runoffs start r runoffs is small =
    let done = count_done start.project.options.wet_ms (pos 0) (run_wet start.project r) (omega (arith, ints)) in
    let none : 0 ≡ steps_done start.project.options.wet_ms (pos 0) =
    omega (arith, ints, thousands (steps_done start.project.options.wet_ms (pos 0)) start.project.options.wet_ms (run_wet start.project r).from, done.ended) in
    subst (λ (n : ℕ). AreRunoffsOf start n runoffs) none (runoffs_none start runoffs is small)

pub runoffs_next : {start : Start} {steps : ℕ} {runoff : SubRunoff} {old new : Runoffs} → AreRunoffsOf start steps old
    → IsRunoffAfter start (suc steps) runoff → TellsStep start steps runoff
    → ((made : ℕ → List SubStep) (after : ℕ → List SubState) → AreRunoffs made after old → made old.steps ≡ runoff.steps
    → after old.steps ≡ runoff.states → AreRunoffs made after new)
    → AreSmall new → new.steps ≡ old.steps + 1 → length new.subs ≡ length old.subs → AreRunoffsOf start (suc steps) new
runoffs_next {start} {steps} {runoff} {old} {new} are after told more small counted places = record {
  small = small;
  steps_are = omega (arith, counted, are.steps_are);
  places = places ∙ are.places;
  summaries = more (runoff_steps start) (runoff_after start) are.summaries
      (ap (runoff_steps start) are.steps_are ∙ sym (steps_are start steps runoff told after.places))
      (ap (runoff_after start) are.steps_are ∙ sym (states_are start steps runoff after));
}

pub subs_are : (start : Start) (k : ℕ) (runoffs : Runoffs) → AreRunoffsOf start (runoffs_done start k) runoffs → runoffs.subs ≡ sub_summaries start k
unfolding sub_summaries
subs_are start k runoffs are =
    fill_by_all (runoff_of (runoff_steps start) (runoff_after start) (runoffs_done start k)) runoffs.subs (length start.project.subs) no_runoff are.places
    (λ j h. are.summaries.each j (omega (arith, h, are.places)) ∙ ap (λ (n : ℕ). runoff_of (runoff_steps start) (runoff_after start) n j) are.steps_are)

-- the sums of all subcatchments are the one total
pub total_runoff_is : (subs : List SubSummary) (total : SubStep) → IsTotal subs total → total ≡ total_runoff subs
total_runoff_is subs total is = same is.rain is.infil is.runoff is.stored
  where
    same : {a b c d e f g h : ℤ} → a ≡ e → b ≡ f → c ≡ g → d ≡ h
        → ◌≡◌ {A = SubStep} (record { rain = a; infil = b; runoff = c; stored = d }) (record { rain = e; infil = f; runoff = g; stored = h })
    same p q r s = rw (p, q, r, s) refl
