use Rattle.std.proofs.Common.{◌≡◌, ◌≤◌, ◌+◌, [], ℕ, List, length, take}
use Rattle.net_types.specs.declared.faults.LineFault.{LineFault}
use Rattle.inp_lines.specs.Faults.{cut}
use Rattle.inp_lines.specs.Gather.{gather}
use Rattle.inp_lines.specs.Names.{defined}
use Rattle.inp_forms.specs.Context.{context_of}
use Rattle.inp_rules.specs.declared.order.RulePart.{RulePart}
use Rattle.inp_rules.specs.RuleLines.{part_of}
use Rattle.inp_rules.specs.RuleFaults.{rule_fault, rule_name}
use Rattle.inp_rules.proofs.PieceLemmas.{counted}
use Rattle.inp_rules.proofs.faults.read_faults.Given as goal

-- what the lines so far gave, and how far they came
pub record ReadSoFar (next place : ℕ) (part come : RulePart) (rules named pieces counted_so_far : ℕ) (faults found : List LineFault) : Type 0 where
  pub next_is : next ≡ place + 1
  pub part_is : part ≡ come
  pub rules_are : named ≡ rules
  pub pieces_are : pieces ≡ counted_so_far
  pub faults_are : faults ≡ cut found
  pub short : length faults ≤ 100

abbrev pub invariant-loop-line : goal.invariant-loop-line
invariant-loop-line l =
    let before = take l.line-index l.all in
    ReadSoFar l.next l.line-index l.part (part_of before) l.rules (length (defined rule_name before)) l.pieces (counted before)
    l.faults (gather (rule_fault (context_of l.known) l.all) [] before)
