use Rattle.std.proofs.Common.{◌≡◌, ◌^◌, pos, ◌<◌, ◌∙◌, length, sym, ap, subst, arith}
use Rattle.net_types.specs.declared.hydrology.Sub.{Sub}
use Rattle.runoff.specs.RunoffStep.{IsKeptState}
use Rattle.runoff_states.specs.RunoffStates.{state_at, sub_at}
use Rattle.runoff_states.proofs.OpenLemmas.{Opened, opened_at, opened_more, opened_none, opened_range, opened_states}
use Rattle.runoff_states.proofs.RunLemmas.{sub_is}
use Rattle.runoff_states.proofs.opening.open_states.Goals as goal
use Rattle.runoff_states.proofs.opening.open_states.Goals.{After-loop-place}

pub loop-place-preserved : goal.loop-place-preserved
loop-place-preserved c =
    let k = c.loop-place.place in
    let items = c.as_slice-subs.result.now in
    let same : c.index-subs-place.result ≡ sub_at c.args.project.now.subs k =
    c.index-subs-place.is
    ∙ sub_is c.args.project.now items k c.index-subs-place.result c.as_slice-subs.ensures c.loop-place-test.true in
    let inside : k < length c.loop-place.states =
    omega (
      arith,
      c.loop-place-test.true,
      ap length c.as_slice-subs.ensures,
      c.loop-place.auto.states,
      c.requires.kept.each_sub,
    ) in
    opened_more c.loop-place.invariant c.opening_sub.result inside
    (opened_at c.args.project.now c.index-subs-place.result (state_at c.loop-place.states k) c.opening_sub.result k same
    (c.loop-place.invariant.left k (omega arith)) c.opening_sub.ensures.value c.opening_sub.ensures.range)

pub opening_sub-requires-clause-state : goal.opening_sub-requires-clause-state
opening_sub-requires-clause-state c =
    let k = c.loop-place.place in
    let items = c.as_slice-subs.result.now in
    let inside : k < length c.args.project.now.subs =
    omega (arith, c.loop-place-test.true, ap length c.as_slice-subs.ensures) in
    let same : c.index-subs-place.result ≡ sub_at c.args.project.now.subs k =
    c.index-subs-place.is
    ∙ sub_is c.args.project.now items k c.index-subs-place.result c.as_slice-subs.ensures c.loop-place-test.true in
    let was = c.loop-place.invariant.left k (omega arith) in
    subst (λ (s : Sub). IsKeptState (pos (10 ^ 16)) s (state_at c.loop-place.states k)) (sym same)
    (subst (IsKeptState (pos (10 ^ 16)) (sub_at c.args.project.now.subs k)) (sym was)
    (c.requires.kept.range k inside))

pub loop-place-init : goal.loop-place-init
loop-place-init c = opened_none _ _

opened : (c : After-loop-place) → Opened c.args.project.now c.args.states.now c.loop-place.states
    (length c.args.project.now.subs)
opened c =
    let end : c.loop-place.place ≡ length c.args.project.now.subs =
    omega (arith, ap length c.as_slice-subs.ensures, c.loop-place-test.false, c.loop-place.auto.place-end) in
    subst (Opened c.args.project.now c.args.states.now c.loop-place.states) end c.loop-place.invariant

pub returns-clause-states : goal.returns-clause-states
returns-clause-states c =
    opened_states (opened (goal.at.returns-clause-states c).After-loop-place)
    (omega (arith, c.loop-place.auto.states, c.requires.kept.each_sub))

pub returns-clause-range : goal.returns-clause-range
returns-clause-range c =
    opened_range (opened (goal.at.returns-clause-range c).After-loop-place)
    (omega (arith, c.loop-place.auto.states, c.requires.kept.each_sub))
