use Rattle.std.proofs.Common.{rules, FitsSigned, w64, ◌∙◌, ℕ, suc, sym, subst}
use Rattle.std.proofs.lemmas.Int.{to_z-of_z}
use Rattle.runoff_states.specs.RunoffTimes.{steps_done}
use Rattle.run_engine.specs.Kept.{AreRunoffsOf}
use Rattle.run_engine.proofs.RunoffLemmas.{above_from, at_of, count_of, last_more, last_of, le_from, less_left, run_wet, step_begins, step_room}
use Rattle.run_engine.proofs.SubLemmas.{few_before, runoffs_next}
use Rattle.run_engine.proofs.laterals.advance_runoff.Goals as goal

pub loop-runoff-init : goal.loop-runoff-init
loop-runoff-init c =
    let earlier = c.requires.earlier.0 in
    simp (to_z-of_z, c.ranges.moment)
    (steps_done c.args.start.now.project.options.wet_ms earlier, last_of c.requires.project c.requires.earlier.1 c.requires.earlier.2, c.requires.earlier.3)

pub step_runoff-requires-clause-states : goal.step_runoff-requires-clause-states
step_runoff-requires-clause-states c =
    let kept = simp (to_z-of_z, c.ranges.moment) at c.loop-runoff.invariant in
    step_room c.requires.moment kept.1

pub add_runoff-requires-clause-few : goal.add_runoff-requires-clause-few
add_runoff-requires-clause-few c =
    let kept = simp (to_z-of_z, c.ranges.moment) at c.loop-runoff.invariant in
    few_before c.requires.project c.requires.moment kept.1 kept.2

pub add_runoff-requires-clause-small : goal.add_runoff-requires-clause-small
add_runoff-requires-clause-small c = c.loop-runoff.invariant.2.small

pub add_runoff-requires-clause-steps : goal.add_runoff-requires-clause-steps
add_runoff-requires-clause-steps c =
    let kept = simp (to_z-of_z, c.ranges.moment) at c.loop-runoff.invariant in
    let after = c.step_runoff.ensures.run kept.0 kept.1.after in
    rw c.as_slice.ensures (after.places ∙ sym kept.2.places)

pub add_runoff-requires-clause-states : goal.add_runoff-requires-clause-states
add_runoff-requires-clause-states c =
    let kept = simp (to_z-of_z, c.ranges.moment) at c.loop-runoff.invariant in
    let after = c.step_runoff.ensures.run kept.0 kept.1.after in
    rw c.as_slice-in-loop-runoff.ensures (after.states.each_sub ∙ sym kept.2.places)

pub add_runoff-requires-clause-steps_in : goal.add_runoff-requires-clause-steps_in
add_runoff-requires-clause-steps_in c = rw c.as_slice.ensures c.step_runoff.ensures.range

pub loop-runoff-smaller : goal.loop-runoff-smaller
loop-runoff-smaller c =
    let kept = simp (to_z-of_z, c.ranges.moment) at c.loop-runoff.invariant in
    let begin : FitsSigned w64 c.loop-runoff.runoff.begin = search rules in
    let due = simp (to_z-of_z, c.ranges.moment, begin) at c.is_due.ensures in
    let after = c.step_runoff.ensures.run kept.0 kept.1.after in
    simp (to_z-of_z, c.ranges.moment)
    (less_left c.args.moment c.loop-runoff.runoff.begin c.step_runoff.new.runoff.begin c.args.start.now.project.options.wet_ms
    (run_wet c.args.start.now.project c.requires.project).from (step_begins kept.1.after after)
    (le_from _ _ (sym due ∙ c.loop-runoff-test.true)))

pub loop-runoff-preserved : goal.loop-runoff-preserved
loop-runoff-preserved c =
    let kept = simp (to_z-of_z, c.ranges.moment) at c.loop-runoff.invariant in
    let begin : FitsSigned w64 c.loop-runoff.runoff.begin = search rules in
    let due = simp (to_z-of_z, c.ranges.moment, begin) at c.is_due.ensures in
    let after = c.step_runoff.ensures.run kept.0 kept.1.after in
    let told = c.step_runoff.ensures.told kept.0 kept.1.after in
    let added = rw (c.as_slice.ensures, c.as_slice-in-loop-runoff.ensures) at c.add_runoff.ensures.summaries in
    simp (to_z-of_z, c.ranges.moment) (
      suc kept.0,
      last_more c.requires.project kept.1 (le_from _ _ (sym due ∙ c.loop-runoff-test.true)) after,
      runoffs_next kept.2 after told added c.add_runoff.ensures.small c.add_runoff.ensures.steps c.add_runoff.ensures.subs,
    )

pub returns-clause-runoff : goal.returns-clause-runoff
returns-clause-runoff c =
    let kept = simp (to_z-of_z, c.ranges.moment) at c.loop-runoff.invariant in
    let begin : FitsSigned w64 c.loop-runoff.runoff.begin = search rules in
    let due = simp (to_z-of_z, c.ranges.moment, begin) at c.is_due.ensures in
    at_of c.requires.project kept.1 (above_from _ _ (sym due ∙ c.loop-runoff-test.false))

pub returns-clause-summaries : goal.returns-clause-summaries
returns-clause-summaries c =
    let kept = simp (to_z-of_z, c.ranges.moment) at c.loop-runoff.invariant in
    let begin : FitsSigned w64 c.loop-runoff.runoff.begin = search rules in
    let due = simp (to_z-of_z, c.ranges.moment, begin) at c.is_due.ensures in
    subst (λ (n : ℕ). AreRunoffsOf c.args.start.now n c.loop-runoff.subs)
    (count_of c.requires.project kept.1 (above_from _ _ (sym due ∙ c.loop-runoff-test.false))) kept.2
