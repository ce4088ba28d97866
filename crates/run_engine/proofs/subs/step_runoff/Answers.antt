use Rattle.std.proofs.Common.{◌^◌, rules, ◌≡◌, ◌∙◌, suc, ℤ, pos, ◌+ℤ◌, ◌*ℤ◌, List, length, ap, subst, sym, arith, FitsSigned, w64, of_z, to_z}
use Rattle.std.specs.List.{All}
use Rattle.std.proofs.lemmas.Int.{ints, to_z-of_z}
use Rattle.runoff.specs.RunoffStep.{StepInRange}
use Rattle.runoff.specs.declared.states.SubState.{SubState}
use Rattle.runoff.specs.declared.states.SubStep.{SubStep}
use Rattle.runoff_states.specs.RunoffStates.{AreStates, AreStatesUpTo, state_at, step_at, step_on}
use Rattle.run_engine.proofs.SubStateLemmas.{written_back}
use Rattle.run_engine.specs.Laterals.{runoff_start}
use Rattle.run_engine.proofs.RunoffLemmas.{run_soil, stepped, told_by}
use Rattle.run_engine.proofs.subs.step_runoff.Goals as goal

pub returns-clause-run : goal.returns-clause-run
returns-clause-run c steps at =
    let start = c.args.start.now in
    let project = start.project in
    let old = c.args.runoff.now in
    let wet = c.requires.project.sound.options.wet_in in
    let begin : FitsSigned w64 old.begin = search rules in
    let ms : FitsSigned w64 project.options.wet_ms = search rules in
    let end : FitsSigned w64 (old.begin +ℤ project.options.wet_ms) =
    omega (arith, ints, c.requires.begin.from, c.requires.begin.to, wet.from, wet.to) in
    let moved : to_z w64 (of_z w64 (to_z w64 (of_z w64 old.begin) +ℤ to_z w64 (of_z w64 project.options.wet_ms))) ≡ old.begin +ℤ project.options.wet_ms =
    ap (λ (b : ℤ). to_z w64 (of_z w64 (b +ℤ to_z w64 (of_z w64 project.options.wet_ms)))) (to_z-of_z w64 old.begin begin)
    ∙ ap (λ (m : ℤ). to_z w64 (of_z w64 (old.begin +ℤ m))) (to_z-of_z w64 project.options.wet_ms ms)
    ∙ to_z-of_z w64 _ end in
    let lent = c.as_mut_slice.ensures.value in
    let lent_steps = c.as_mut_slice-2.ensures.value in
    let back = written_back old.states c.step_all.new.states (c.step_all.ensures.as_many_states ∙ ap length lent) in
    let back_steps = written_back old.steps c.step_all.new.steps (c.step_all.ensures.as_many_steps ∙ ap length lent_steps) in
    let states = c.step_all.ensures.run (runoff_start start) steps (to_z-of_z w64 old.begin begin ∙ at.begins) (subst (AreStates project (runoff_start start) steps) (sym lent) at.states) in
    let most_now = pos (10 ^ 15) +ℤ pos 2_778 *ℤ old.begin in
    let range = c.step_all.ensures.growth most_now (subst (AreStatesUpTo most_now project) (sym lent) at.range) in
    stepped at moved
    (subst (AreStates project (runoff_start start) (suc steps)) (sym back) states)
    (subst (AreStatesUpTo (most_now +ℤ pos 2_778 *ℤ project.options.wet_ms) project) (sym back) range)
    (ap length back_steps ∙ c.step_all.ensures.as_many_steps ∙ ap length lent_steps ∙ at.places)

pub returns-clause-told : goal.returns-clause-told
returns-clause-told c steps at k inside =
    let project = c.args.start.now.project in
    let old = c.args.runoff.now in
    let begin : FitsSigned w64 old.begin = search rules in
    let lent = c.as_mut_slice.ensures.value in
    let back_steps = written_back old.steps c.step_all.new.steps (c.step_all.ensures.as_many_steps ∙ ap length c.as_mut_slice-2.ensures.value) in
    let told = c.step_all.ensures.steps in
    ap (λ (l : List SubStep). step_at l k) back_steps
    ∙ told k inside
    ∙ ap (λ (l : List SubState). step_on project (to_z w64 (of_z w64 old.begin)) (state_at l k) k) lent
    ∙ told_by at (to_z-of_z w64 old.begin begin) k inside

pub returns-clause-range : goal.returns-clause-range
returns-clause-range c =
    subst (All StepInRange) (sym (written_back _ _ (c.step_all.ensures.as_many_steps ∙ ap length c.as_mut_slice-2.ensures.value))) c.step_all.ensures.range

pub step_all-requires-clause-infiltrations : goal.step_all-requires-clause-infiltrations
step_all-requires-clause-infiltrations c = run_soil c.args.start.now.project c.requires.project
