use Rattle.control_rules.proofs.PlaceLemmas.{claimed_none, claim_loop, claim_valid}
use Rattle.control_rules.proofs.places.claim.Goals as goal

pub loop-action-init : goal.loop-action-init
loop-action-init c = record { each = λ link h. claimed_none c.args.rules.now c.args.list link _; valid = c.requires.valid }

pub loop-action-preserved : goal.loop-action-preserved
loop-action-preserved c = record {
  each = λ link h. claim_loop c.args.rules.now c.args.list c.list_at-action-items.result.now c.loop-action.action-index _ c.args.places.now
      c.loop-action.places c.claim_link.new.places link c.list_at-action-items.ensures c.requires.acts c.loop-action.auto.places c.loop-action-test.true
      c.claim_link.ensures (c.loop-action.invariant.each link h);
  valid = λ link h. claim_valid c.args.rules.now c.args.list c.list_at-action-items.result.now c.loop-action.action-index _ c.args.places.now
      c.loop-action.places c.claim_link.new.places link c.list_at-action-items.ensures c.requires.acts c.loop-action.auto.places c.loop-action-test.true
      c.requires.list c.claim_link.ensures (c.loop-action.invariant.valid link h);
}
