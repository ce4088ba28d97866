use Rattle.control_rules.proofs.PlaceLemmas.{settled_none, settle_loop}
use Rattle.control_rules.proofs.places.settle.Goals as goal

pub loop-action-init : goal.loop-action-init
loop-action-init c link h = settled_none c.args.list link _

pub loop-action-preserved : goal.loop-action-preserved
loop-action-preserved c link h =
    settle_loop c.args.rules.now c.args.list c.list_at-action-items.result.now c.loop-action.action-index _ c.args.places.now
    c.loop-action.places c.settle_link.new.places link c.list_at-action-items.ensures c.requires.acts c.loop-action.auto.places c.loop-action-test.true
    c.settle_link.ensures (c.loop-action.invariant link h)
