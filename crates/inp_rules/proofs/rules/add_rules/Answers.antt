use Rattle.std.proofs.Common.{◌∙◌, ◌+◌, ap, sym}
use Rattle.inp_lines.proofs.GatherLemmas.{gather_kept}
use Rattle.inp_forms.specs.Context.{context_of}
use Rattle.inp_rules.specs.Rules.{rule_at, rules_with}
use Rattle.inp_rules.proofs.LineLemmas.{after_next}
use Rattle.inp_rules.proofs.rules.add_rules.Goals as goal

pub loop-line-preserved : goal.loop-line-preserved
loop-line-preserved c =
    let known = context_of c.args.known.now in
    let lines = c.as_slice-all.result.now in
    let i = c.loop-line.line-index in
    let line = c.line-item.result in
    let so_far = c.loop-line.invariant in
    record {
      next_is = ap (λ n. n + 1) so_far.next_is;
      rules_are = gather_kept (rule_at known lines) lines i line c.args.rules.now c.loop-line.rules c.add_rule.new.rules _
          c.loop-line-test.true c.line-item.is (ap (rules_with known line) (after_next lines i c.loop-line.next c.loop-line-test.true so_far.next_is))
          so_far.rules_are c.in_ok-add_rule.ensures;
    }
