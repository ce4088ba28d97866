-- What a test of a control rule is read as (User's Manual, section [CONTROLS]; this project's profile): a clause word,
-- what is looked at, its name unless that is the clock, what of it, a relation and a value.
use Rattle.std.specs.Prelude.{ℕ, ◌+◌, nat_lt, if◌then◌else◌, List, length, Option, Some, None, codes}
use Rattle.std.specs.Prelude.{Result, Ok, Err}
use Rattle.inp_forms.specs.Context.{Context}
use Rattle.inp_forms.specs.declared.item.Objects.TheVariants as objects
use Rattle.inp_lines.specs.Faults.{token_at, too_few_of, fault_of_kind}
use Rattle.inp_lines.specs.Readings.{and_then}
use Rattle.inp_lines.specs.declared.fault.Fault.{Fault}
use Rattle.inp_values.specs.Words.{same_word}
use Rattle.net_types.specs.declared.faults.FaultKind.TheVariants as fault_kind
use Rattle.net_types.specs.declared.rules.Test.{Test}
use Rattle.inp_rules.specs.RuleValues.{found_or, object_at, tested_value}
use Rattle.inp_rules.specs.RuleWords.{clock_look_of, link_look_of, node_look_of, relation_of, watched_of}
use Rattle.inp_rules.specs.declared.words.Looked.{Looked}
use Rattle.inp_rules.specs.declared.words.Watched.{Watched}
use Rattle.inp_rules.specs.declared.words.Watched.TheVariants as watched

-- relation and value, from a place on
unfoldable pub compared : Context → List (List ℕ) → (place : ℕ) → Looked → Result Test Fault
compared known tokens place looked =
    and_then (found_or (relation_of (token_at tokens place)) fault_kind.InvalidKeyword place) (λ relation.
    and_then (tested_value known looked (token_at tokens (place + 1)) (place + 1)) (λ value.
    Ok (record { subject = looked.subject; relation = relation; value = value })))

-- what is looked at, at a place, is in this profile, or 401
abbrev pub looked_test : Context → List (List ℕ) → (place : ℕ) → Option Looked → Result Test Fault
looked_test known tokens place None = Err (fault_of_kind fault_kind.NotInProfile place)
looked_test known tokens place (Some looked) = compared known tokens (place + 1) looked

-- the test of a node, of a link of a kind, and of the clock
abbrev pub watched_test : Context → List (List ℕ) → Option Watched → Result Test Fault
watched_test known tokens None = Err (fault_of_kind fault_kind.InvalidKeyword 1)
watched_test known tokens (Some watched.Node) =
    and_then (object_at known objects.Nodes (token_at tokens 2) 2) (λ node.
    looked_test known tokens 3 (node_look_of node (token_at tokens 3)))
watched_test known tokens (Some (watched.Link kind)) =
    and_then (object_at known kind (token_at tokens 2) 2) (λ link.
    looked_test known tokens 3 (link_look_of link (token_at tokens 3)))
watched_test known tokens (Some watched.Simulation) = looked_test known tokens 2 (clock_look_of (token_at tokens 2))

-- how many items a test needs
abbrev pub least_of_test : List ℕ → ℕ
least_of_test word = if same_word word (codes "SIMULATION") then 5 else 6

-- the test of a clause, or its fault: 203 where it has too few items, and else that of its first item at fault
unfoldable pub test_of : Context → List (List ℕ) → Result Test Fault
test_of known tokens =
    if nat_lt (length tokens) (least_of_test (token_at tokens 1)) then Err (too_few_of tokens)
    else watched_test known tokens (watched_of (token_at tokens 1))
