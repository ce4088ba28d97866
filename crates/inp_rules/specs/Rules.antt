-- The control rules that lines give (User's Manual, section [CONTROLS]).
use Rattle.std.specs.Prelude.{ℕ, Bool, true, false, not, if◌then◌else◌, List, [], ◌∷◌, map, filter_map}
use Rattle.std.specs.Prelude.{Option, Some, None, option_to_list, ℤ, Result, Ok, Err}
use Rattle.std.specs.List.{before_first, last_or}
use Rattle.net_types.specs.declared.rules.Action.{Action}
use Rattle.net_types.specs.declared.rules.Rule.{Rule}
use Rattle.net_types.specs.declared.rules.Test.{Test}
use Rattle.inp_lines.specs.declared.fault.Fault.{Fault}
use Rattle.inp_lines.specs.declared.line.Line.{Line}
use Rattle.inp_lines.specs.Faults.{token_at}
use Rattle.inp_lines.specs.Gather.{gather}
use Rattle.inp_forms.specs.Context.{Context}
use Rattle.inp_rules.specs.declared.clauses.Clause.{Clause}
use Rattle.inp_rules.specs.declared.clauses.Clause.TheVariants as clause
use Rattle.inp_rules.specs.declared.order.RulePart.{RulePart}
use Rattle.inp_rules.specs.declared.order.RulePart.TheVariants as rule
use Rattle.inp_rules.specs.Actions.{action_of, priority_of}
use Rattle.inp_rules.specs.RuleLines.{begins_rule, clause_at, lines_after, own_lines, own_part, placed}
use Rattle.inp_rules.specs.Tests.{test_of}

-- ---- which part of its rule a clause belongs to
abbrev pub are_tests : Option RulePart → Bool
are_tests (Some rule.Tests) = true
are_tests _ = false

-- the actions for when the tests hold, or those for otherwise
abbrev pub are_actions : (otherwise : Bool) → Option RulePart → Bool
are_actions otherwise (Some rule.ThenActions) = not otherwise
are_actions otherwise (Some rule.ElseActions) = otherwise
are_actions otherwise _ = false

abbrev pub is_end : Option RulePart → Bool
is_end (Some rule.Ended) = true
is_end _ = false

-- what a reading gives, if it is without fault
abbrev pub good_of : {A : Type 0} → Result A Fault → Option A
good_of (Ok value) = Some value
good_of (Err fault) = None

-- ---- groups of tests: OR binds stronger than AND, so an IF or an AND begins a group, and the ORs up to the next
-- belong to it
abbrev pub is_or : Option Clause → Bool
is_or (Some clause.Or) = true
is_or _ = false

abbrev pub begins_group : Line → Bool
begins_group line = not (is_or (clause_at line))

-- the runs of a list: each begins with an item that opens one, and ends before the next of those
abbrev pub runs : {A : Type 0} → (opens : A → Bool) → List A → List (List A)
runs opens [] = []
runs opens (x ∷ xs) = if opens x then (x ∷ before_first opens xs) ∷ runs opens xs else runs opens xs

abbrev pub test_lines_with : RulePart → Line → List Line
test_lines_with part line = if are_tests (placed part (clause_at line)) then line ∷ [] else []

abbrev pub test_line_at : List Line → Line → List Line
test_line_at before line = test_lines_with (own_part before) line

-- the test of a line, if it is without fault, and the tests of lines
abbrev pub test_in : Context → Line → Option Test
test_in known line = good_of (test_of known line.tokens)

abbrev pub tests_in : Context → List Line → List Test
tests_in known lines = filter_map (test_in known) lines

-- the groups of a rule by its own lines
unfoldable pub groups_of : Context → List Line → List (List Test)
groups_of known own = map (tests_in known) (runs begins_group (gather test_line_at [] own))

-- ---- actions
abbrev pub actions_with : Context → (otherwise : Bool) → RulePart → Line → List Action
actions_with known otherwise part line =
    if are_actions otherwise (placed part (clause_at line))
    then option_to_list (good_of (action_of known line.tokens))
    else []

abbrev pub action_at : Context → (otherwise : Bool) → List Line → Line → List Action
action_at known otherwise before line = actions_with known otherwise (own_part before) line

unfoldable pub actions_of : Context → (otherwise : Bool) → List Line → List Action
actions_of known otherwise own = gather (action_at known otherwise) [] own

-- ---- priority
abbrev pub priority_with : Context → RulePart → Line → List ℤ
priority_with known part line =
    if is_end (placed part (clause_at line)) then option_to_list (good_of (priority_of known line.tokens)) else []

abbrev pub priority_at : Context → List Line → Line → List ℤ
priority_at known before line = priority_with known (own_part before) line

unfoldable pub rule_priority : Context → List Line → Option ℤ
rule_priority known own = last_or None (gather (priority_at known) [] own)

-- ---- rules
-- the rule of a RULE line and its own lines after it
unfoldable pub rule_of : Context → Line → List Line → Rule
rule_of known line own = record {
  name = token_at line.tokens 1;
  groups = groups_of known own;
  then_acts = actions_of known false own;
  else_acts = actions_of known true own;
  priority6 = rule_priority known own;
}

-- each RULE line gives one rule, by the lines after it
abbrev pub rules_with : Context → Line → (after : List Line) → List Rule
rules_with known line after = if begins_rule line then rule_of known line (own_lines after) ∷ [] else []

abbrev pub rule_at : Context → (all : List Line) → List Line → Line → List Rule
rule_at known all before line = rules_with known line (lines_after all before)

-- The rules of lines, in the order of their RULE lines.
unfoldable pub rules_of : Context → List Line → List Rule
rules_of known lines = gather (rule_at known lines) [] lines
