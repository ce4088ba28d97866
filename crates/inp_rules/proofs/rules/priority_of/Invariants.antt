use Rattle.std.proofs.Common.{◌≡◌, [], take, Option, None, ℤ}
use Rattle.std.specs.List.{last_or}
use Rattle.inp_lines.specs.Gather.{gather}
use Rattle.inp_forms.specs.Context.{context_of}
use Rattle.inp_rules.specs.declared.order.RulePart.{RulePart}
use Rattle.inp_rules.specs.RuleLines.{own_part}
use Rattle.inp_rules.specs.Rules.{priority_at}
use Rattle.inp_rules.proofs.rules.priority_of.Given as goal

-- what the lines so far gave, and how far the rule has come
pub record ReadSoFar (part come : RulePart) (priority6 given : Option ℤ) : Type 0 where
  pub part_is : part ≡ come
  pub priority_is : priority6 ≡ given

abbrev pub invariant-loop-line : goal.invariant-loop-line
invariant-loop-line l =
    let before = take l.line-index l.own in
    ReadSoFar l.part (own_part before) l.priority6 (last_or None (gather (priority_at (context_of l.known)) [] before))
