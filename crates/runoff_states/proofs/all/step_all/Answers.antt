use Rattle.std.proofs.Common.{◌≡◌, ◌<◌, ◌∙◌, length, sym, ap, subst, arith}
use Rattle.std.proofs.lemmas.Int.{to_z-of_z}
use Rattle.net_types.specs.declared.hydrology.Sub.{Sub}
use Rattle.runoff.specs.RunoffStep.{IsSubState, StepInRange}
use Rattle.runoff.specs.declared.states.SubStep.{SubStep}
use Rattle.runoff_states.specs.RunoffAccount.{IsClosed}
use Rattle.runoff_states.specs.RunoffStates.{state_at, sub_at}
use Rattle.runoff_states.proofs.RunLemmas.{Stepped, all_steps, grown, run_on, step_at_place, stepped_more, stepped_none}
use Rattle.runoff_states.proofs.RunLemmas.{sub_is}
use Rattle.runoff_states.proofs.all.step_all.Goals as goal
use Rattle.runoff_states.proofs.all.step_all.Goals.{After-loop-place}

pub loop-place-init : goal.loop-place-init
loop-place-init c = stepped_none _ _ _ _

pub step_one-requires-clause-state : goal.step_one-requires-clause-state
step_one-requires-clause-state c =
    let k = c.loop-place.place in
    let items = c.as_slice-subs.result.now in
    let inside : k < length c.args.project.now.subs =
    omega (arith, c.loop-place-test.true, ap length c.as_slice-subs.ensures) in
    let same : c.index-subs-place.result ≡ sub_at c.args.project.now.subs k =
    c.index-subs-place.is
    ∙ sub_is c.args.project.now items k c.index-subs-place.result c.as_slice-subs.ensures c.loop-place-test.true in
    let was = c.loop-place.invariant.left k (omega arith) in
    subst (λ (s : Sub). IsSubState s (state_at c.loop-place.states k)) (sym same)
    (subst (IsSubState (sub_at c.args.project.now.subs k)) (sym was) (c.requires.states.range k inside))

pub loop-place-preserved : goal.loop-place-preserved
loop-place-preserved c =
    let k = c.loop-place.place in
    let items = c.as_slice-subs.result.now in
    let same : c.index-subs-place.result ≡ sub_at c.args.project.now.subs k =
    c.index-subs-place.is
    ∙ sub_is c.args.project.now items k c.index-subs-place.result c.as_slice-subs.ensures c.loop-place-test.true in
    let inside : k < length c.loop-place.states =
    omega (
      arith,
      c.loop-place-test.true,
      ap length c.as_slice-subs.ensures,
      c.loop-place.invariant.count,
      c.requires.states.each_sub,
    ) in
    let room : k < length c.loop-place.steps =
    omega (
      arith,
      c.loop-place-test.true,
      ap length c.as_slice-subs.ensures,
      c.loop-place.auto.steps,
      c.requires.steps,
    ) in
    let before = state_at c.loop-place.states k in
    stepped_more c.loop-place.invariant before c.step_one.new.state c.step_one.result inside room
    (c.loop-place.invariant.left k (omega arith))
    (step_at_place c.args.project.now _ c.index-subs-place.result before c.step_one.new.state c.step_one.result k same
    c.step_one.ensures.step c.step_one.ensures.after c.step_one.ensures.growth c.step_one.ensures.range
    c.step_one.ensures.closed)

walked : (c : After-loop-place) → Stepped c.args.project.now c.args.moment c.args.states.now c.loop-place.states
    c.loop-place.steps (length c.args.project.now.subs)
walked c =
    let end : c.loop-place.place ≡ length c.args.project.now.subs =
    omega (arith, ap length c.as_slice-subs.ensures, c.loop-place-test.false, c.loop-place.auto.place-end) in
    subst (Stepped c.args.project.now c.args.moment c.args.states.now c.loop-place.states c.loop-place.steps) end
    (simp (to_z-of_z, c.ranges.moment) at c.loop-place.invariant)

pub returns-clause-states : goal.returns-clause-states
returns-clause-states c = (walked (goal.at.returns-clause-states c).After-loop-place).done

pub returns-clause-steps : goal.returns-clause-steps
returns-clause-steps c = (walked (goal.at.returns-clause-steps c).After-loop-place).told

pub returns-clause-run : goal.returns-clause-run
returns-clause-run c =
    let w = walked (goal.at.returns-clause-run c).After-loop-place in run_on w.count w.done

pub returns-clause-growth : goal.returns-clause-growth
returns-clause-growth c =
    let w = walked (goal.at.returns-clause-growth c).After-loop-place in grown w.count w.grown

pub returns-clause-range : goal.returns-clause-range
returns-clause-range c =
    let w = walked (goal.at.returns-clause-range c).After-loop-place in
    all_steps StepInRange c.loop-place.steps (length c.args.project.now.subs)
    (omega (arith, c.loop-place.auto.steps, c.requires.steps)) w.range

pub returns-clause-closed : goal.returns-clause-closed
returns-clause-closed c =
    let w = walked (goal.at.returns-clause-closed c).After-loop-place in
    all_steps (λ (step : SubStep). IsClosed step) c.loop-place.steps (length c.args.project.now.subs)
    (omega (arith, c.loop-place.auto.steps, c.requires.steps)) w.closed
