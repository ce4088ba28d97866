-- What the lines of control rules mean (User's Manual, section [CONTROLS]).
use Rattle.std.specs.Prelude.{◌≡◌, Bool, true, false, if◌then◌else◌, List, [], ◌∷◌, Option, None, ℤ, Ok}
use Rattle.std.specs.List.{AllZip, last_or}
use Rattle.net_types.specs.declared.rules.Action.{Action}
use Rattle.net_types.specs.declared.rules.Rule.{Rule}
use Rattle.net_types.specs.declared.rules.Test.{Test}
use Rattle.inp_lines.specs.declared.line.Line.{Line}
use Rattle.inp_lines.specs.Faults.{token_at}
use Rattle.inp_lines.specs.Gather.{gather}
use Rattle.inp_forms.specs.Context.{Context}
use Rattle.inp_rules.specs.declared.order.RulePart.{RulePart}
use Rattle.inp_rules.specs.Actions.{action_of, priority_of}
use Rattle.inp_rules.specs.RuleLines.{begins_rule, clause_at, own_part, placed}
use Rattle.inp_rules.specs.Rules.{are_actions, are_tests, begins_group, is_end, runs}
use Rattle.inp_rules.specs.Tests.{test_of}

-- The lines of a rule that stand in a part of it, of the lines after its RULE line: its tests, its actions for when
-- they hold and for otherwise, and its priority.
abbrev pub line_with : (Option RulePart → Bool) → List Line → Line → List Line
line_with is_part before line = if is_part (placed (own_part before) (clause_at line)) then line ∷ [] else []

abbrev pub lines_with : (Option RulePart → Bool) → List Line → List Line
lines_with is_part own = gather (line_with is_part) [] own

-- a line gives this test, this action, this priority
abbrev pub IsTest : Context → Line → Test → Type 0
IsTest known line test = test_of known line.tokens ≡ Ok test

abbrev pub IsAction : Context → Line → Action → Type 0
IsAction known line action = action_of known line.tokens ≡ Ok action

abbrev pub IsPriority : Context → Line → ℤ → Type 0
IsPriority known line priority6 = priority_of known line.tokens ≡ Ok priority6

-- A RULE line and its own lines after it mean this rule. Its tests stand in groups: an IF or an AND begins a group, and
-- the ORs up to the next belong to it.
pub record IsRuleOf (known : Context) (line : Line) (own : List Line) (meant : Rule) : Type 0 where
  pub name_is : meant.name ≡ token_at line.tokens 1
  pub groups_are : AllZip (AllZip (IsTest known)) (runs begins_group (lines_with are_tests own)) meant.groups
  pub then_are : AllZip (IsAction known) (lines_with (are_actions false) own) meant.then_acts
  pub else_are : AllZip (IsAction known) (lines_with (are_actions true) own) meant.else_acts
  pub priorities : List ℤ
  pub priorities_are : AllZip (IsPriority known) (lines_with is_end own) priorities
  pub priority_is : meant.priority6 ≡ last_or None priorities

abbrev pub IsRule : Context → List Line → Rule → Type 0
IsRule known [] meant = ⊥
IsRule known (line ∷ own) meant = IsRuleOf known line own meant

-- Lines mean these rules: each is what a RULE line says with the lines up to the next.
abbrev pub MeanRules : Context → List Line → List Rule → Type 0
MeanRules known lines rules = AllZip (IsRule known) (runs begins_rule lines) rules
