use Rattle.std.proofs.Common.{◌∙◌, [], ap, sym, refl}
use Rattle.inp_lines.proofs.GatherLemmas.{gather_all, gather_kept}
use Rattle.inp_forms.specs.Context.{context_of}
use Rattle.inp_rules.specs.declared.order.RulePart.TheVariants.{Named}
use Rattle.inp_rules.specs.Order.{part_after}
use Rattle.inp_rules.specs.RuleLines.{clause_at, own_part}
use Rattle.inp_rules.specs.Rules.{action_at, actions_of, actions_with}
use Rattle.inp_rules.proofs.LineLemmas.{part_next}
use Rattle.inp_rules.proofs.rules.actions_of.Goals as goal

pub loop-line-init : goal.loop-line-init
unfolding own_part
loop-line-init c = record { part_is = refl; actions_are = c.new-actions.ensures }

pub loop-line-preserved : goal.loop-line-preserved
unfolding own_part
loop-line-preserved c =
    let known = context_of c.args.known.now in
    let own = c.args.own.now in
    let i = c.loop-line.line-index in
    let line = c.line-item.result in
    let so_far = c.loop-line.invariant in
    record {
      part_is = c.part_after_line-part.ensures ∙ (ap (λ part. part_after part (clause_at line)) so_far.part_is
          ∙ sym (part_next Named own i line c.loop-line-test.true c.line-item.is));
      actions_are = gather_kept (action_at known c.args.otherwise) own i line [] c.loop-line.actions c.add_action.new.actions
          (actions_with known c.args.otherwise c.loop-line.part line) c.loop-line-test.true c.line-item.is
          (ap (λ part. actions_with known c.args.otherwise part line) so_far.part_is) so_far.actions_are c.in_ok-add_action.ensures;
    }

pub returns : goal.returns
unfolding actions_of
returns c = c.loop-line.invariant.actions_are ∙ gather_all (action_at (context_of c.args.known.now) c.args.otherwise) c.args.own.now c.loop-line.line-index c.loop-line-test.false
