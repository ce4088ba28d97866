-- The value of an item by its text, and the fault of a text that has none.
use Rattle.std.specs.Prelude.{◌==◌, ◌&&◌, ℕ, ℤ, pos, ◌*ℤ◌, int_le, nat_le, Bool, true, false, if◌then◌else◌, List, []}
use Rattle.std.specs.Prelude.{◌∷◌, Option, Some, None, is_some, Result, Ok, Err}
use Rattle.std.specs.Option.{option_map}
use Rattle.std.specs.Ordering.{int_eq}
use Rattle.net_types.specs.declared.faults.FaultKind.{FaultKind}
use Rattle.net_types.specs.declared.faults.FaultKind.TheVariants as fault_kind
use Rattle.net_types.specs.declared.options.FlowUnits.{FlowUnits}
use Rattle.fixed_num.specs.Decimal.{scaled_of}
use Rattle.fixed_num.specs.Rounding.{quo_of}
use Rattle.inp_values.specs.declared.quantities.Quantity.TheVariants.{Raw, Coefficient}
use Rattle.inp_values.specs.Duration.{hours_of}
use Rattle.inp_values.specs.Field.{whole_of}
use Rattle.inp_values.specs.Switch.{switch_of}
use Rattle.inp_values.specs.Units.{is_us, unit_for}
use Rattle.inp_lines.specs.declared.fault.Fault.{Fault}
use Rattle.inp_lines.specs.declared.names.Naming.{Naming}
use Rattle.inp_lines.specs.Faults.{fault_of_kind}
use Rattle.inp_lines.specs.Readings.{and_then, new_name_of}
use Rattle.inp_forms.specs.declared.item.Objects.{Objects}
use Rattle.inp_forms.specs.declared.item.Objects.TheVariants as objects
use Rattle.inp_forms.specs.declared.item.Value.{Value}
use Rattle.inp_forms.specs.declared.item.Value.TheVariants.{Nothing, Amount, Index, Choice, Switch}
use Rattle.inp_forms.specs.declared.item.What.{What}
use Rattle.inp_forms.specs.declared.item.What.TheVariants as what
use Rattle.inp_forms.specs.Context.{Context, object_number}
use Rattle.inp_forms.specs.Keywords.{keyword_of, word_fault}

-- a number that is this one at least
abbrev pub amount_from : ℤ → Option ℤ → Option ℤ
amount_from least None = None
amount_from least (Some value) = if int_le least value then Some value else None

-- a number that is this one
abbrev pub amount_only : ℤ → Option ℤ → Option ℤ
amount_only only None = None
amount_only only (Some value) = if int_eq value only then Some value else None

-- a number that lies in bounds
abbrev pub amount_between : ℤ → ℤ → Option ℤ → Option ℤ
amount_between least most None = None
amount_between least most (Some value) = if int_le least value && int_le value most then Some value else None

-- a whole number that lies in bounds
abbrev pub whole_in : ℕ → ℕ → Option ℕ → Option ℤ
whole_in least most None = None
whole_in least most (Some n) = if nat_le least n && nat_le n most then Some (pos n) else None

abbrev pub whole_between : ℕ → ℕ → List ℕ → Option ℤ
whole_between least most text = whole_in least most (whole_of text)

-- the halves of a power in millionths (this project's profile: powers in steps of a half from 0 to 3)
unfoldable pub halves_in : ℤ → Option ℕ
halves_in power =
    if int_eq power (pos 0) then Some 0
    else if int_eq power (pos 500_000) then Some 1
    else if int_eq power (pos 1_000_000) then Some 2
    else if int_eq power (pos 1_500_000) then Some 3
    else if int_eq power (pos 2_000_000) then Some 4
    else if int_eq power (pos 2_500_000) then Some 5
    else if int_eq power (pos 3_000_000) then Some 6
    else None

abbrev pub halves_found : Option ℤ → Option ℕ
halves_found None = None
halves_found (Some power) = halves_in power

abbrev pub halves_of : FlowUnits → List ℕ → Option ℕ
halves_of units text = halves_found (scaled_of (unit_for units Raw) text)

-- the metric discharge coefficient of a weir: the square root of a foot in metres is 0.552087 (this project's profile)
unfoldable pub metric_coefficient : FlowUnits → ℤ → ℤ
metric_coefficient units coefficient = if is_us units then quo_of (coefficient *ℤ pos 552_087) (pos 1_000_000)
    else coefficient

abbrev pub weir_coefficient_of : FlowUnits → List ℕ → Option ℤ
weir_coefficient_of units text = option_map (metric_coefficient units) (scaled_of (unit_for units Coefficient) text)

-- `*` stands for an ideal pump
abbrev pub is_star : List ℕ → Bool
is_star [] = false
is_star (byte ∷ []) = byte == 42
is_star (byte ∷ next ∷ more) = false

abbrev pub object_of : Context → Objects → List ℕ → Option Value
object_of known kind text = option_map (λ number. Index number) (object_number known kind text)

-- the object of a name, or nothing for the empty text
abbrev pub maybe_of : Context → Objects → List ℕ → Option Value
maybe_of known kind [] = Some Nothing
maybe_of known kind (byte ∷ bytes) = object_of known kind (byte ∷ bytes)

abbrev pub pump_curve_of : Context → List ℕ → Option Value
pump_curve_of known text = if is_star text then None else object_of known objects.PumpCurves text

abbrev pub amount_value : Option ℤ → Option Value
amount_value number = option_map (λ amount. Amount amount) number

-- the value of an item by its text, where the text is what the item has to be (User's Manual, appendix D; ranges are
-- this project's profile)
unfoldable pub found_of : Context → What → List ℕ → Option Value
found_of known what.Name text = Some Nothing
found_of known (what.Own kind) text = object_of known kind text
found_of known (what.Object kind) text = object_of known kind text
found_of known (what.Maybe kind) text = maybe_of known kind text
found_of known what.PumpCurve text = pump_curve_of known text
found_of known what.Outlet text = object_of known objects.Nodes text
found_of known (what.Number quantity) text = amount_value (scaled_of (unit_for known.units quantity) text)
found_of known (what.AtLeast least quantity) text = amount_value (amount_from least (scaled_of
    (unit_for known.units quantity) text))
found_of known (what.Only only quantity) text = amount_value (amount_only only (scaled_of
    (unit_for known.units quantity) text))
found_of known (what.Whole least most) text = amount_value (whole_between least most text)
found_of known what.WeirCoefficient text = amount_value (weir_coefficient_of known.units text)
found_of known what.Halves text = option_map (λ number. Index number) (halves_of known.units text)
found_of known (what.Hours least most) text = amount_value (amount_between least most (hours_of text))
found_of known (what.Word words) text = option_map (λ keyword. Choice keyword) (keyword_of words text)
found_of known what.YesNo text = option_map (λ on. Switch on) (switch_of text)
found_of known what.Unused text = Some Nothing
found_of known what.End text = None

abbrev pub profile_or_name : Bool → FaultKind
profile_or_name outside = if outside then fault_kind.NotInProfile else fault_kind.UndefinedName

-- the fault of a text that isn't what the item has to be; a name and an unused text have none
unfoldable pub wrong_of : Context → What → List ℕ → FaultKind
wrong_of known what.Name text = fault_kind.DuplicateName
wrong_of known (what.Own kind) text = fault_kind.UndefinedName
wrong_of known (what.Object kind) text = fault_kind.UndefinedName
wrong_of known (what.Maybe kind) text = fault_kind.UndefinedName
wrong_of known what.PumpCurve text = profile_or_name (is_star text)
wrong_of known what.Outlet text = profile_or_name (is_some (object_number known objects.Subcatchments text))
wrong_of known (what.Number quantity) text = fault_kind.InvalidNumber
wrong_of known (what.AtLeast least quantity) text = fault_kind.InvalidNumber
wrong_of known (what.Only only quantity) text = fault_kind.NotInProfile
wrong_of known (what.Whole least most) text = fault_kind.InvalidNumber
wrong_of known what.WeirCoefficient text = fault_kind.InvalidNumber
wrong_of known what.Halves text = fault_kind.NotInProfile
wrong_of known (what.Hours least most) text = fault_kind.InvalidTime
wrong_of known (what.Word words) text = word_fault words text
wrong_of known what.YesNo text = fault_kind.InvalidKeyword
wrong_of known what.Unused text = fault_kind.InvalidKeyword
wrong_of known what.End text = fault_kind.NotInProfile

-- whether an item's name has to be new: the name that a line defines, and the object that has one such line
abbrev pub is_own : What → Bool
is_own what.Name = true
is_own (what.Own kind) = true
is_own _ = false

abbrev pub checked : Naming → What → Value → Result Value Fault
checked naming item value = if is_own item then and_then (new_name_of naming) (λ _. Ok value) else Ok value

abbrev pub value_from : Naming → What → FaultKind → ℕ → Option Value → Result Value Fault
value_from naming item kind place (Some value) = checked naming item value
value_from naming item kind place None = Err (fault_of_kind kind place)

-- the value of an item, or its fault: the text isn't what it has to be, or else a name isn't new
unfoldable pub value_of : Context → Naming → What → List ℕ → ℕ → Result Value Fault
value_of known naming item text place = value_from naming item (wrong_of known item text) place
    (found_of known item text)
