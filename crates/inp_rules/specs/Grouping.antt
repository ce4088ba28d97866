-- What the walk over tests makes of their groups; for the walk alone.
use Rattle.std.specs.Prelude.{List, [], ◌∷◌, ◌++◌, if◌then◌else◌, option_to_list}
use Rattle.net_types.specs.declared.rules.Test.{Test}
use Rattle.inp_lines.specs.declared.line.Line.{Line}
use Rattle.inp_forms.specs.Context.{Context}
use Rattle.inp_rules.specs.declared.order.RulePart.{RulePart}
use Rattle.inp_rules.specs.RuleLines.{clause_at, placed}
use Rattle.inp_rules.specs.Rules.{are_tests, begins_group, test_in}

-- these items more in the last list, if there is one
abbrev pub with_last : {A : Type 0} → List (List A) → List A → List (List A)
with_last [] more = []
with_last (xs ∷ []) more = (xs ++ more) ∷ []
with_last (xs ∷ ys ∷ lists) more = xs ∷ with_last (ys ∷ lists) more

-- the groups with the test of a line more, a new one or the last
abbrev pub with_test : Context → Line → List (List Test) → List (List Test)
with_test known line groups =
    if begins_group line then groups ++ option_to_list (test_in known line) ∷ []
    else with_last groups (option_to_list (test_in known line))

-- the same where the line is a test
abbrev pub groups_with : Context → RulePart → Line → List (List Test) → List (List Test)
groups_with known part line groups =
    if are_tests (placed part (clause_at line)) then with_test known line groups else groups
