use Rattle.std.proofs.Common.{◌≡◌, ◌++◌, ◌+◌, [], ℕ, take, List}
use Rattle.net_types.specs.declared.rules.Rule.{Rule}
use Rattle.inp_lines.specs.Gather.{gather}
use Rattle.inp_forms.specs.Context.{context_of}
use Rattle.inp_rules.specs.Rules.{rule_at}
use Rattle.inp_rules.proofs.rules.add_rules.Given as goal

-- what the lines so far gave, and the place of the line after the next
pub record ReadSoFar (next place : ℕ) (rules given : List Rule) : Type 0 where
  pub next_is : next ≡ place + 1
  pub rules_are : rules ≡ given

abbrev pub invariant-loop-line : goal.invariant-loop-line
invariant-loop-line l =
    ReadSoFar l.next l.line-index l.rules (l.initial.rules ++ gather (rule_at (context_of l.known) l.all) [] (take l.line-index l.all))
