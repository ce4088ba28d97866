use Rattle.std.proofs.Common.{◌≡◌, ◌+◌, ◌∙◌, sym, subst, List}
use Rattle.runoff.specs.declared.states.SubState.{SubState}
use Rattle.runoff_states.specs.RunoffStates.{sub_at}
use Rattle.runoff_states.proofs.OpenLemmas.{Started, started_more, started_none}
use Rattle.runoff_states.proofs.RunLemmas.{sub_is}
use Rattle.runoff_states.proofs.opening.start_states.Goals as goal

pub loop-sub-preserved : goal.loop-sub-preserved
loop-sub-preserved c =
    let k = c.loop-sub.sub-index in
    let items = c.as_slice-sub-items.result.now in
    let same : c.sub-item.result ≡ sub_at c.args.project.now.subs k =
    c.sub-item.is
    ∙ sub_is c.args.project.now items k c.sub-item.result c.as_slice-sub-items.ensures c.loop-sub-test.true in
    let pushed = c.in_ok-push.ensures.ok in
    subst (λ (l : List SubState). Started c.args.project.now l (k + 1)) (sym pushed)
    (started_more c.loop-sub.invariant c.sub-item.result c.start_sub.result same c.start_sub.ensures.value
    c.start_sub.ensures.range)

pub loop-sub-init : goal.loop-sub-init
loop-sub-init c = subst (λ (l : List SubState). Started c.args.project.now l 0) (sym c.new-states.ensures)
    (started_none c.args.project.now)
