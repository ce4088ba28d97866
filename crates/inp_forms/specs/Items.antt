-- The items of a line, each at its place: their values, or the fault of the line.
use Rattle.std.specs.Prelude.{ℕ, ◌+◌, Bool, true, false, if◌then◌else◌, nat_lt, List, [], ◌∷◌, length, filter, Result}
use Rattle.std.specs.Prelude.{Ok, Err}
use Rattle.inp_lines.specs.declared.fault.Fault.{Fault}
use Rattle.inp_lines.specs.declared.names.Naming.{Naming}
use Rattle.inp_lines.specs.Faults.{token_at, too_few_of}
use Rattle.inp_lines.specs.Readings.{and_then}
use Rattle.inp_forms.specs.declared.item.Item.{Item}
use Rattle.inp_forms.specs.declared.item.Item.TheVariants.{Needed, Or}
use Rattle.inp_forms.specs.declared.item.Value.{Value}
use Rattle.inp_forms.specs.Context.{Context}
use Rattle.inp_forms.specs.Values.{value_of}

abbrev pub is_needed : Item → Bool
is_needed (Needed item) = true
is_needed (Or missing item) = false

-- how many items a line of a form needs
abbrev pub least_of : List Item → ℕ
least_of items = length (filter is_needed items)

-- The value of the item at a place, or its fault; an item that is missing has the value of the form.
abbrev pub item_of : Context → Naming → Item → List (List ℕ) → ℕ → Result Value Fault
item_of known naming (Needed item) tokens place = value_of known naming item (token_at tokens place) place
item_of known naming (Or missing item) tokens place =
    if nat_lt place (length tokens) then value_of known naming item (token_at tokens place) place else Ok missing

-- The values of items from a place on, or the fault of the first item at fault.
unfoldable pub items_of : Context → Naming → List Item → List (List ℕ) → ℕ → Result (List Value) Fault
items_of known naming [] tokens place = Ok []
items_of known naming (item ∷ items) tokens place =
    and_then (item_of known naming item tokens place) (λ value.
    and_then (items_of known naming items tokens (place + 1)) (λ values. Ok (value ∷ values)))

-- The values of the items of a line: 203 where there are too few, and else the first item at fault.
unfoldable pub values_of : Context → Naming → List Item → List (List ℕ) → Result (List Value) Fault
values_of known naming items tokens =
    if nat_lt (length tokens) (least_of items) then Err (too_few_of tokens) else items_of known naming items tokens 0
