use Rattle.std.proofs.Common.{◌∙◌, ap, sym, refl}
use Rattle.inp_rules.specs.declared.order.RulePart.TheVariants.{Named}
use Rattle.inp_rules.specs.Order.{part_after}
use Rattle.inp_rules.specs.RuleLines.{clause_at, own_part}
use Rattle.inp_rules.proofs.LineLemmas.{part_all, part_next}
use Rattle.inp_rules.proofs.rule_lines.own_part.Goals as goal

pub loop-line-init : goal.loop-line-init
unfolding own_part
loop-line-init c = refl

pub loop-line-preserved : goal.loop-line-preserved
unfolding own_part
loop-line-preserved c =
    c.part_after_line-part.ensures ∙ (ap (λ part. part_after part (clause_at c.line-item.result)) c.loop-line.invariant
    ∙ sym (part_next Named c.args.own.now c.loop-line.line-index c.line-item.result c.loop-line-test.true c.line-item.is))

pub returns : goal.returns
unfolding own_part
returns c = c.loop-line.invariant ∙ part_all Named c.args.own.now c.loop-line.line-index c.loop-line-test.false
