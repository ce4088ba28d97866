-- What the items of a line mean, each on its own.
use Rattle.std.specs.Prelude.{◌≡◌, ◌↔◌, ◌<◌, ◌≤◌, ◌≤ℤ◌, ◌+◌, ◌*◌, ℕ, ℤ, pos, Bool, false, List, [], ◌∷◌, length}
use Rattle.std.specs.Prelude.{Option, Some, None, Ok}
use Rattle.std.specs.Bool.{⊤}
use Rattle.fixed_num.specs.Decimal.{IsStored}
use Rattle.fixed_num.specs.Ranges.{IsBetween}
use Rattle.inp_values.specs.declared.quantities.Quantity.{Quantity}
use Rattle.inp_values.specs.declared.quantities.Quantity.TheVariants.{Raw, Coefficient}
use Rattle.inp_values.specs.Duration.{hours_of}
use Rattle.inp_values.specs.Field.{IsWhole}
use Rattle.inp_values.specs.Switch.{switch_of}
use Rattle.inp_values.specs.Units.{unit_for}
use Rattle.inp_lines.specs.declared.line.Line.{Line}
use Rattle.inp_lines.specs.declared.names.Naming.TheVariants.{First}
use Rattle.inp_lines.specs.Faults.{token_at}
use Rattle.inp_forms.specs.declared.item.Item.{Item}
use Rattle.inp_forms.specs.declared.item.Item.TheVariants.{Needed, Or}
use Rattle.inp_forms.specs.declared.item.Objects.{Objects}
use Rattle.inp_forms.specs.declared.item.Objects.TheVariants as objects
use Rattle.inp_forms.specs.declared.item.Value.{Value}
use Rattle.inp_forms.specs.declared.item.Value.TheVariants.{Nothing, Amount, Index, Choice, Switch}
use Rattle.inp_forms.specs.declared.item.What.{What}
use Rattle.inp_forms.specs.declared.item.What.TheVariants as what
use Rattle.inp_forms.specs.declared.words.Keyword.{Keyword}
use Rattle.inp_forms.specs.Context.{Context, object_number}
use Rattle.inp_forms.specs.Forms.{RowForm, Forms}
use Rattle.inp_forms.specs.Getters.{amount_of, index_of}
use Rattle.inp_forms.specs.Items.{least_of, values_of}
use Rattle.inp_forms.specs.Keywords.{keyword_of}
use Rattle.inp_forms.specs.Values.{is_star, metric_coefficient}

-- the value is the number of the object that a name stands for
pub record IsObject (known : Context) (kind : Objects) (text : List ℕ) (value : Value) : Type 0 where
  pub value_is : value ≡ Index (index_of value)
  pub number_is : object_number known kind text ≡ Some (index_of value)

-- the empty name stands for nothing
abbrev pub IsMaybe : Context → Objects → List ℕ → Value → Type 0
IsMaybe known kind [] value = value ≡ Nothing
IsMaybe known kind (byte ∷ bytes) value = IsObject known kind (byte ∷ bytes) value

-- the value is the stored number of a quantity that a text is, and lies in bounds
pub record IsAmount (known : Context) (quantity : Quantity) (text : List ℕ) (value : Value) : Type 0 where
  pub value_is : value ≡ Amount (amount_of value)
  pub stored : IsStored (unit_for known.units quantity) text (amount_of value)

pub record IsWholeAmount (least most : ℕ) (text : List ℕ) (value : Value) : Type 0 where
  pub n : ℕ
  pub value_is : value ≡ Amount (pos n)
  pub whole : IsWhole text n
  pub from : least ≤ n
  pub to : n ≤ most

pub record IsWeirAmount (known : Context) (text : List ℕ) (value : Value) : Type 0 where
  pub coefficient : ℤ
  pub value_is : value ≡ Amount (metric_coefficient known.units coefficient)
  pub stored : IsStored (unit_for known.units Coefficient) text coefficient

-- the value counts the halves of a power of at most 3
pub record AreHalves (known : Context) (text : List ℕ) (value : Value) : Type 0 where
  pub halves : ℕ
  pub value_is : value ≡ Index halves
  pub few : halves ≤ 6
  pub stored : IsStored (unit_for known.units Raw) text (pos (500_000 * halves))

pub record IsHourAmount (least most : ℤ) (text : List ℕ) (value : Value) : Type 0 where
  pub value_is : value ≡ Amount (amount_of value)
  pub hours : hours_of text ≡ Some (amount_of value)
  pub range : IsBetween least (amount_of value) most

-- A text means this value as what an item has to be. That a name is new is no part of it.
abbrev pub IsValue : Context → What → List ℕ → Value → Type 0
IsValue known what.Name text value = value ≡ Nothing
IsValue known (what.Own kind) text value = IsObject known kind text value
IsValue known (what.Object kind) text value = IsObject known kind text value
IsValue known (what.Maybe kind) text value = IsMaybe known kind text value
IsValue known what.PumpCurve text value = (is_star text ≡ false) × IsObject known objects.PumpCurves text value
IsValue known what.Outlet text value = IsObject known objects.Nodes text value
IsValue known (what.Number quantity) text value = IsAmount known quantity text value
IsValue known (what.AtLeast least quantity) text value = IsAmount known quantity text value × (least ≤ℤ amount_of value)
IsValue known (what.Only only quantity) text value = IsAmount known quantity text value × (amount_of value ≡ only)
IsValue known (what.Whole least most) text value = IsWholeAmount least most text value
IsValue known what.WeirCoefficient text value = IsWeirAmount known text value
IsValue known what.Halves text value = AreHalves known text value
IsValue known (what.Hours least most) text value = IsHourAmount least most text value
IsValue known (what.Word words) text value = (found : Keyword) × (value ≡ Choice found)
    × (keyword_of words text ≡ Some found)
IsValue known what.YesNo text value = (on : Bool) × (value ≡ Switch on) × (switch_of text ≡ Some on)
IsValue known what.Unused text value = value ≡ Nothing
IsValue known what.End text value = ⊥

-- an item that may be missing has the value of the form then
pub record IsItemOr (known : Context) (missing : Value) (item : What) (tokens : List (List ℕ)) (place : ℕ)
    (value : Value) : Type 0 where
  pub there : place < length tokens → IsValue known item (token_at tokens place) value
  pub absent : length tokens ≤ place → value ≡ missing

abbrev pub IsItem : Context → Item → List (List ℕ) → ℕ → Value → Type 0
IsItem known (Needed item) tokens place value = IsValue known item (token_at tokens place) value
IsItem known (Or missing item) tokens place value = IsItemOr known missing item tokens place value

-- items from a place on mean these values, one each
abbrev pub AreItems : Context → List Item → List (List ℕ) → ℕ → List Value → Type 0
AreItems known [] tokens place [] = ⊤
AreItems known [] tokens place (value ∷ values) = ⊥
AreItems known (item ∷ items) tokens place [] = ⊥
AreItems known (item ∷ items) tokens place (value ∷ values) = IsItem known item tokens place value
    × AreItems known items tokens (place + 1) values

-- The items of a line mean these values.
pub record AreValues (known : Context) (items : List Item) (tokens : List (List ℕ)) (values : List Value) : Type 0 where
  pub enough : least_of items ≤ length tokens
  pub each : AreItems known items tokens 0 values

-- A line means this record by a form: it is made of the values that its items mean.
pub record IsMade {R : Type 0} (known : Context) (form : RowForm R) (tokens : List (List ℕ)) (made : R) : Type 0 where
  pub values : List Value
  pub are : AreValues known form.items tokens values
  pub made_is : made ≡ form.make tokens values

-- The same by the forms of a kind of record; a line of another kind means none.
abbrev pub IsMadeBy : {R : Type 0} → Context → Option (List (List ℕ) → RowForm R) → List (List ℕ) → R → Type 0
IsMadeBy known None tokens made = ⊥
IsMadeBy known (Some form) tokens made = IsMade known (form tokens) tokens made

abbrev pub IsRecord : {R : Type 0} → Context → Forms R → Line → R → Type 0
IsRecord known forms line made = IsMadeBy known (forms line.section) line.tokens made

-- The reading of the items of a line is what they mean, where its name is new.
abbrev pub ValuesAreRead : Type 0
ValuesAreRead = (known : Context) (items : List Item) (tokens : List (List ℕ)) (values : List Value)
    → values_of known First items tokens ≡ Ok values ↔ AreValues known items tokens values
