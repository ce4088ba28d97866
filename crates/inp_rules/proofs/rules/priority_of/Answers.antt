use Rattle.std.proofs.Common.{◌∙◌, [], ap, sym, refl, take, None, Option, ℤ}
use Rattle.std.specs.List.{last_or}
use Rattle.inp_lines.specs.Gather.{gather}
use Rattle.inp_lines.proofs.GatherLemmas.{gather_all, gather_next}
use Rattle.inp_forms.specs.Context.{context_of}
use Rattle.inp_rules.specs.declared.order.RulePart.TheVariants.{Named}
use Rattle.inp_rules.specs.Order.{part_after}
use Rattle.inp_rules.specs.RuleLines.{clause_at, own_part}
use Rattle.inp_rules.specs.Rules.{priority_at, priority_with, rule_priority}
use Rattle.inp_rules.proofs.LineLemmas.{last_append, part_next}
use Rattle.inp_rules.proofs.rules.priority_of.Goals as goal

pub loop-line-init : goal.loop-line-init
unfolding own_part
loop-line-init c = record { part_is = refl; priority_is = refl }

pub loop-line-preserved : goal.loop-line-preserved
unfolding own_part
loop-line-preserved c =
    let known = context_of c.args.known.now in
    let own = c.args.own.now in
    let i = c.loop-line.line-index in
    let line = c.line-item.result in
    let so_far = c.loop-line.invariant in
    let given = gather (priority_at known) [] (take i own) in
    record {
      part_is = c.part_after_line-part.ensures ∙ (ap (λ part. part_after part (clause_at line)) so_far.part_is
          ∙ sym (part_next Named own i line c.loop-line-test.true c.line-item.is));
      priority_is = c.later_priority-priority6.ensures
          ∙ (ap (λ (o : Option ℤ). last_or o (priority_with known c.loop-line.part line)) so_far.priority_is
          ∙ (ap (λ part. last_or (last_or None given) (priority_with known part line)) so_far.part_is
          ∙ (sym (last_append None given (priority_at known (take i own) line))
          ∙ ap (last_or None) (sym (gather_next (priority_at known) own i line c.loop-line-test.true c.line-item.is)))));
    }

pub returns : goal.returns
unfolding rule_priority
returns c = c.loop-line.invariant.priority_is ∙ ap (last_or None) (gather_all (priority_at (context_of c.args.known.now)) c.args.own.now c.loop-line.line-index c.loop-line-test.false)
