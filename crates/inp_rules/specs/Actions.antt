-- What an action of a control rule is read as (User's Manual, section [CONTROLS]; this project's profile): a clause
-- word, the kind of link, its name, what is set, `=` and a value.
use Rattle.std.specs.Prelude.{ℕ, nat_lt, if◌then◌else◌, List, length, Option, Some, None, ℤ, codes}
use Rattle.std.specs.Prelude.{Result, Ok, Err}
use Rattle.inp_forms.specs.Context.{Context}
use Rattle.inp_forms.specs.declared.item.Objects.{Objects}
use Rattle.inp_forms.specs.declared.item.What.TheVariants as what
use Rattle.inp_lines.specs.Faults.{token_at, too_few_of, fault_of_kind}
use Rattle.inp_lines.specs.Readings.{and_then}
use Rattle.inp_lines.specs.declared.fault.Fault.{Fault}
use Rattle.inp_values.specs.Words.{same_word}
use Rattle.inp_values.specs.declared.quantities.Quantity.TheVariants as quantity
use Rattle.net_types.specs.declared.faults.FaultKind.TheVariants as fault_kind
use Rattle.net_types.specs.declared.rules.Action.{Action}
use Rattle.inp_rules.specs.RuleValues.{number_at, object_at, set_value}
use Rattle.inp_rules.specs.RuleWords.{actor_of, part_of}
use Rattle.inp_rules.specs.declared.words.Part.{Part}

-- `=`, or 205, and the value
unfoldable pub setting_action : Context → List (List ℕ) → (link : ℕ) → Part → Result Action Fault
setting_action known tokens link part =
    if same_word (token_at tokens 4) (codes "=")
    then and_then (set_value known part (token_at tokens 5) 5) (λ setting.
    Ok (record { link = link; setting6 = setting }))
    else Err (fault_of_kind fault_kind.InvalidKeyword 4)

-- what is set is in this profile, or 401
abbrev pub part_action : Context → List (List ℕ) → (link : ℕ) → Option Part → Result Action Fault
part_action known tokens link None = Err (fault_of_kind fault_kind.NotInProfile 3)
part_action known tokens link (Some part) = setting_action known tokens link part

-- the kind of link is in this profile, or 401, and a link of that kind has the name, or 209
abbrev pub actor_action : Context → List (List ℕ) → Option Objects → Result Action Fault
actor_action known tokens None = Err (fault_of_kind fault_kind.NotInProfile 1)
actor_action known tokens (Some kind) =
    and_then (object_at known kind (token_at tokens 2) 2) (λ link.
    part_action known tokens link (part_of kind (token_at tokens 3)))

-- the action of a clause, or its fault: 203 where it has too few items, and else that of its first item at fault
unfoldable pub action_of : Context → List (List ℕ) → Result Action Fault
action_of known tokens =
    if nat_lt (length tokens) 6 then Err (too_few_of tokens)
    else actor_action known tokens (actor_of (token_at tokens 1))

-- the priority of a rule, in millionths, or its fault
unfoldable pub priority_of : Context → List (List ℕ) → Result ℤ Fault
priority_of known tokens =
    if nat_lt (length tokens) 2 then Err (too_few_of tokens)
    else number_at known (what.Number quantity.Raw) (token_at tokens 1) 1
