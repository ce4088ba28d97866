use Rattle.std.proofs.Common.{◌≡◌, ◌∙◌, ◌+◌, ◌≤◌, [], ap, sym, refl, arith, take, length, List}
use Rattle.net_types.specs.declared.faults.LineFault.{LineFault}
use Rattle.inp_lines.specs.Faults.{cut}
use Rattle.inp_lines.specs.Gather.{fault_found}
use Rattle.inp_lines.specs.Names.{count_after, defined, number_in}
use Rattle.inp_lines.proofs.GatherLemmas.{gather_all, gather_cut}
use Rattle.inp_lines.proofs.NameLemmas.{count_is, defined_front, defined_next, defined_none}
use Rattle.inp_forms.specs.Context.{context_of}
use Rattle.inp_rules.specs.declared.order.RulePart.TheVariants.{Outside}
use Rattle.inp_rules.specs.Order.{part_after}
use Rattle.inp_rules.specs.RuleFaults.{line_fault_of, pieces_after, pieces_of, rule_fault, rule_name}
use Rattle.inp_rules.specs.RuleLines.{clause_at, part_of}
use Rattle.inp_rules.proofs.LineLemmas.{after_next, fault_same, part_next}
use Rattle.inp_rules.proofs.PieceLemmas.{count_next, full_by_count}
use Rattle.inp_rules.proofs.faults.read_faults.Goals as goal

short_nothing : (faults : List LineFault) → faults ≡ [] → length faults ≤ 100
short_nothing faults e = omega (arith, ap (length {A = LineFault}) e)

pub loop-line-init : goal.loop-line-init
unfolding part_of
loop-line-init c = record {
  next_is = refl;
  part_is = refl;
  rules_are = ap length (defined_none rule_name);
  pieces_are = refl;
  faults_are = c.new-faults.ensures;
  short = short_nothing c.new-faults.result c.new-faults.ensures;
}

pub loop-line-preserved : goal.loop-line-preserved
unfolding line_fault_of part_of
loop-line-preserved c =
    let known = context_of c.args.known.now in
    let lines = c.as_slice-all.result.now in
    let i = c.loop-line.line-index in
    let line = c.line-item.result in
    let so_far = c.loop-line.invariant in
    let held = defined rule_name (take i lines) in
    let front = defined_front rule_name lines i in
    let naming = c.naming_of_line-naming.ensures held front.0 (c.requires.names ∙ (ap (λ l. number_in (defined rule_name l)) (sym c.as_slice-all.ensures) ∙ ap number_in front.1)) so_far.rules_are in
    let next = defined_next rule_name lines i line c.loop-line-test.true c.line-item.is in
    let full = full_by_count (length (pieces_of (take i lines))) c.loop-line.pieces so_far.pieces_are in
    let found = c.fault_of-found.ensures ∙ fault_same known line so_far.part_is full naming (after_next lines i c.loop-line.next c.loop-line-test.true so_far.next_is) in
    record {
      next_is = ap (λ n. n + 1) so_far.next_is;
      part_is = c.part_after_line-part.ensures ∙ (ap (λ part. part_after part (clause_at line)) so_far.part_is
          ∙ sym (part_next Outside lines i line c.loop-line-test.true c.line-item.is));
      rules_are = ap length next ∙ (count_is held (rule_name line) c.loop-line.rules so_far.rules_are
          ∙ (ap (λ n. count_after (rule_name line) n c.loop-line.rules) (sym naming) ∙ sym c.count_line-rules.ensures));
      pieces_are = c.pieces_with-pieces.ensures ∙ (ap (λ part. pieces_after part line c.loop-line.pieces) so_far.part_is
          ∙ (ap (pieces_after (part_of (take i lines)) line) so_far.pieces_are ∙ sym (count_next lines i line c.loop-line-test.true c.line-item.is)));
      faults_are = gather_cut (rule_fault known lines) lines i line [] c.loop-line.faults c.keep_fault.new.faults (fault_found line c.fault_of-found.result)
          c.loop-line-test.true c.line-item.is (ap (fault_found line) found) so_far.faults_are c.in_ok-keep_fault.ensures.faults;
      short = c.in_ok-keep_fault.ensures.short;
    }
