use Rattle.std.proofs.Common.{◌≡◌, take, List}
use Rattle.net_types.specs.declared.rules.Test.{Test}
use Rattle.inp_forms.specs.Context.{context_of}
use Rattle.inp_rules.specs.declared.order.RulePart.{RulePart}
use Rattle.inp_rules.specs.RuleLines.{own_part}
use Rattle.inp_rules.specs.Rules.{groups_of}
use Rattle.inp_rules.proofs.groups.groups_of.Given as goal

-- the groups of the lines so far, and how far the rule has come
pub record ReadSoFar (part come : RulePart) (groups given : List (List Test)) : Type 0 where
  pub part_is : part ≡ come
  pub groups_are : groups ≡ given

abbrev pub invariant-loop-line : goal.invariant-loop-line
invariant-loop-line l =
    let before = take l.line-index l.own in
    ReadSoFar l.part (own_part before) l.groups (groups_of (context_of l.known) before)
