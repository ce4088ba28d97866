use Rattle.std.proofs.Common.{◌∙◌, [], ap, sym, refl, take, List}
use Rattle.net_types.specs.declared.rules.Test.{Test}
use Rattle.inp_forms.specs.Context.{context_of}
use Rattle.inp_rules.specs.declared.order.RulePart.TheVariants.{Named}
use Rattle.inp_rules.specs.Grouping.{groups_with}
use Rattle.inp_rules.specs.Order.{part_after}
use Rattle.inp_rules.specs.RuleLines.{clause_at, own_part}
use Rattle.inp_rules.specs.Rules.{groups_of}
use Rattle.inp_rules.proofs.GroupLemmas.{groups_all, groups_next, groups_none}
use Rattle.inp_rules.proofs.LineLemmas.{part_next}
use Rattle.inp_rules.proofs.groups.groups_of.Goals as goal

pub loop-line-init : goal.loop-line-init
unfolding own_part
loop-line-init c = record { part_is = refl; groups_are = c.new-groups.ensures ∙ sym (groups_none (context_of c.args.known.now)) }

pub loop-line-preserved : goal.loop-line-preserved
unfolding own_part
loop-line-preserved c =
    let known = context_of c.args.known.now in
    let own = c.args.own.now in
    let i = c.loop-line.line-index in
    let line = c.line-item.result in
    let so_far = c.loop-line.invariant in
    record {
      part_is = c.part_after_line-part.ensures ∙ (ap (λ part. part_after part (clause_at line)) so_far.part_is
          ∙ sym (part_next Named own i line c.loop-line-test.true c.line-item.is));
      groups_are = c.in_ok-add_test.ensures
          ∙ (ap (λ part. groups_with known part line c.loop-line.groups) so_far.part_is
          ∙ (ap (λ (groups : List (List Test)). groups_with known (own_part (take i own)) line groups) so_far.groups_are
          ∙ sym (groups_next known own i line c.loop-line-test.true c.line-item.is)));
    }

pub returns : goal.returns
returns c = c.loop-line.invariant.groups_are ∙ groups_all (context_of c.args.known.now) c.args.own.now c.loop-line.line-index c.loop-line-test.false
