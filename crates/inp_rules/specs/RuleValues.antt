-- The values of tests and actions by their texts (User's Manual, section [CONTROLS]; ranges are this project's
-- profile).
use Rattle.std.specs.Prelude.{ℕ, ◌^◌, if◌then◌else◌, List, Option, Some, None, ℤ, pos, int_le, codes}
use Rattle.std.specs.Prelude.{Result, Ok, Err}
use Rattle.inp_forms.specs.Context.{Context, object_number}
use Rattle.inp_lines.specs.Faults.{fault_of_kind}
use Rattle.inp_forms.specs.Values.{value_of}
use Rattle.inp_forms.specs.declared.item.Objects.{Objects}
use Rattle.inp_forms.specs.declared.item.Value.{Value}
use Rattle.inp_forms.specs.declared.item.Value.TheVariants.{Amount}
use Rattle.inp_forms.specs.declared.item.What.{What}
use Rattle.inp_forms.specs.declared.item.What.TheVariants as what
use Rattle.inp_lines.specs.Readings.{and_then}
use Rattle.inp_lines.specs.declared.fault.Fault.{Fault}
use Rattle.inp_lines.specs.declared.names.Naming.TheVariants.{First}
use Rattle.inp_values.specs.Clock.{time_of_day_of}
use Rattle.inp_values.specs.Words.{same_word}
use Rattle.inp_values.specs.declared.quantities.Quantity.TheVariants as quantity
use Rattle.net_types.specs.declared.faults.FaultKind.{FaultKind}
use Rattle.net_types.specs.declared.faults.FaultKind.TheVariants as fault_kind
use Rattle.net_types.specs.declared.rules.Subject.{Subject}
use Rattle.net_types.specs.declared.rules.Subject.TheVariants as subject
use Rattle.inp_rules.specs.RuleWords.{is_outside}
use Rattle.inp_rules.specs.declared.words.Looked.{Looked}
use Rattle.inp_rules.specs.declared.words.Part.{Part}
use Rattle.inp_rules.specs.declared.words.Part.TheVariants as part

-- a value that is there, or a fault of a kind at a place
abbrev pub found_or : {A : Type 0} → Option A → FaultKind → (place : ℕ) → Result A Fault
found_or None kind place = Err (fault_of_kind kind place)
found_or (Some value) kind place = Ok value

-- the number of the object of a name, or 209
abbrev pub object_at : Context → Objects → List ℕ → (place : ℕ) → Result ℕ Fault
object_at known kind name place = found_or (object_number known kind name) fault_kind.UndefinedName place

-- a number of an item of a form, or the item's fault
abbrev pub amount_in : Value → ℤ
amount_in (Amount amount) = amount
amount_in _ = pos 0

abbrev pub number_at : Context → What → List ℕ → (place : ℕ) → Result ℤ Fault
number_at known item text place = and_then (value_of known First item text place) (λ value. Ok (amount_in value))

-- one of two words, of which the first is a setting of 1 and the second one of 0, or 205
abbrev pub setting_by : (on off : List ℕ) → List ℕ → Option ℤ
setting_by on off text =
    if same_word text on then Some (pos (10 ^ 6)) else if same_word text off then Some (pos 0) else None

abbrev pub status_by : (on off : List ℕ) → List ℕ → (place : ℕ) → Result ℤ Fault
status_by on off text place = found_or (setting_by on off text) fault_kind.InvalidKeyword place

-- ---- the value of a test
-- the words of a status: ON and OPEN are a setting of 1, OFF and CLOSED one of 0
abbrev pub either_status : List ℕ → Option ℤ
either_status text =
    if same_word text (codes "ON") then Some (pos (10 ^ 6))
    else if same_word text (codes "OPEN") then Some (pos (10 ^ 6))
    else if same_word text (codes "OFF") then Some (pos 0)
    else if same_word text (codes "CLOSED") then Some (pos 0)
    else None

-- what a value has to be by its subject; the time of the day is a clock, whose item is not of a form
abbrev pub what_of : Subject → What
what_of (subject.NodeDepth node) = what.Number quantity.Depth
what_of (subject.NodeHead node) = what.Number quantity.Elevation
what_of (subject.NodeInflow node) = what.Number quantity.Flow
what_of (subject.LinkFlow link) = what.Number quantity.Flow
what_of (subject.LinkSetting link) = what.Number quantity.Coefficient
what_of subject.Elapsed = what.Hours (pos 0) (pos (10 ^ 12))
what_of subject.ClockTime = what.Hours (pos 0) (pos 86_399_999)
what_of subject.Month = what.Whole 1 12
what_of subject.Weekday = what.Whole 1 7

abbrev pub subject_value : Context → Subject → List ℕ → (place : ℕ) → Result ℤ Fault
subject_value known subject.ClockTime text place = found_or (time_of_day_of text) fault_kind.InvalidTime place
subject_value known (subject.NodeDepth node) text place = number_at known (what_of (subject.NodeDepth node)) text place
subject_value known (subject.NodeHead node) text place = number_at known (what_of (subject.NodeHead node)) text place
subject_value known (subject.NodeInflow node) text place =
    number_at known (what_of (subject.NodeInflow node)) text place
subject_value known (subject.LinkFlow link) text place = number_at known (what_of (subject.LinkFlow link)) text place
subject_value known (subject.LinkSetting link) text place =
    number_at known (what_of (subject.LinkSetting link)) text place
subject_value known subject.Elapsed text place = number_at known (what_of subject.Elapsed) text place
subject_value known subject.Month text place = number_at known (what_of subject.Month) text place
subject_value known subject.Weekday text place = number_at known (what_of subject.Weekday) text place

unfoldable pub tested_value : Context → Looked → List ℕ → (place : ℕ) → Result ℤ Fault
tested_value known looked text place =
    if looked.by_status then found_or (either_status text) fault_kind.InvalidKeyword place
    else subject_value known looked.subject text place

-- ---- the value of an action
-- a setting of 0 to 1, or 211
abbrev pub up_to_one : (value : ℤ) (place : ℕ) → Result ℤ Fault
up_to_one value place =
    if int_le value (pos (10 ^ 6)) then Ok value else Err (fault_of_kind fault_kind.InvalidNumber place)

abbrev pub setting_at : Context → List ℕ → (place : ℕ) → Result ℤ Fault
setting_at known text place =
    if is_outside text then Err (fault_of_kind fault_kind.NotInProfile place)
    else and_then (number_at known (what.Number quantity.Coefficient) text place) (λ value. up_to_one value place)

unfoldable pub set_value : Context → Part → List ℕ → (place : ℕ) → Result ℤ Fault
set_value known part.PumpStatus text place = status_by (codes "ON") (codes "OFF") text place
set_value known part.ConduitStatus text place = status_by (codes "OPEN") (codes "CLOSED") text place
set_value known part.Setting text place = setting_at known text place
