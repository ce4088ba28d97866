use Rattle.std.proofs.Common.{◌≡◌, [], take, List}
use Rattle.net_types.specs.declared.rules.Action.{Action}
use Rattle.inp_lines.specs.Gather.{gather}
use Rattle.inp_forms.specs.Context.{context_of}
use Rattle.inp_rules.specs.declared.order.RulePart.{RulePart}
use Rattle.inp_rules.specs.RuleLines.{own_part}
use Rattle.inp_rules.specs.Rules.{action_at}
use Rattle.inp_rules.proofs.rules.actions_of.Given as goal

-- what the lines so far gave, and how far the rule has come
pub record ReadSoFar (part come : RulePart) (actions given : List Action) : Type 0 where
  pub part_is : part ≡ come
  pub actions_are : actions ≡ given

abbrev pub invariant-loop-line : goal.invariant-loop-line
invariant-loop-line l =
    let before = take l.line-index l.own in
    ReadSoFar l.part (own_part before) l.actions (gather (action_at (context_of l.known) l.otherwise) [] before)
