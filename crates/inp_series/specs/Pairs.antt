-- Pairs of items, as the lines of time series and curves have them.
use Rattle.std.specs.Prelude.{ℕ, ◌+◌, ◌%◌, ◌==◌, ◌||◌, ℤ, pos, ◌+ℤ◌, ◌-ℤ◌, ◌*ℤ◌}
use Rattle.std.specs.Prelude.{Bool, if◌then◌else◌, List, [], ◌∷◌, ◌++◌}
use Rattle.std.specs.Prelude.{true, int_lt, option_to_list, Option, Some, None}
use Rattle.std.specs.Option.{option_map, option_or}
use Rattle.fixed_num.specs.Decimal.{scaled_of}
use Rattle.net_types.specs.declared.faults.FaultKind.{FaultKind}
use Rattle.net_types.specs.declared.faults.FaultKind.TheVariants as fault_kind
use Rattle.net_types.specs.declared.options.FlowUnits.TheVariants.{Cms}
use Rattle.inp_values.specs.declared.quantities.Quantity.TheVariants.{Raw}
use Rattle.inp_values.specs.Duration.{hours_of}
use Rattle.inp_values.specs.Units.{unit_for}
use Rattle.inp_lines.specs.declared.fault.Fault.{Fault}
use Rattle.inp_lines.specs.Faults.{fault_of_kind}
use Rattle.inp_series.specs.declared.pairs.Axis.{Axis}
use Rattle.inp_series.specs.declared.pairs.Axis.TheVariants.{Amounts, Hours}

-- the stored value of a raw number, whose unit is the same under all flow units
abbrev pub amount_of : List ℕ → Option ℤ
amount_of text = scaled_of (unit_for Cms Raw) text

-- hours as a time from the start of a run: they count from the start, or from the beginning of the day of a date, which
-- is a number of days from 1970-01-01 as the start is a number of ms
abbrev pub moved : ℤ → Option ℤ → ℤ → ℤ
moved start None ms = ms
moved start (Some day) ms = day *ℤ pos 86_400_000 -ℤ start +ℤ ms

-- the value of the first item of a pair
abbrev pub x_of : Axis → List ℕ → Option ℤ
x_of Amounts text = amount_of text
x_of (Hours start date) text = option_map (moved start date) (hours_of text)

-- a text that has no such value
abbrev pub bad_kind : Axis → FaultKind
bad_kind Amounts = fault_kind.InvalidNumber
bad_kind (Hours start date) = fault_kind.InvalidTime

-- a value that isn't greater than the one before it
abbrev pub order_kind : Axis → FaultKind
order_kind Amounts = fault_kind.CurveOrder
order_kind (Hours start date) = fault_kind.SeriesOrder

abbrev pub follows : Option ℤ → ℤ → Bool
follows None x = true
follows (Some last) x = int_lt last x

-- The values of the first items, those that have one.
abbrev pub xs_of : Axis → List (List ℕ) → List ℤ
xs_of axis (x ∷ y ∷ pairs) = option_to_list (x_of axis x) ++ xs_of axis pairs
xs_of axis _ = []

-- The pairs of values, those that have both.
abbrev pub pair_of : Option ℤ → Option ℤ → List (ℤ × ℤ)
pair_of (Some x) (Some y) = (x, y) ∷ []
pair_of (Some x) None = []
pair_of None y = []

abbrev pub values_of : Axis → List (List ℕ) → List (ℤ × ℤ)
values_of axis (x ∷ y ∷ pairs) = pair_of (x_of axis x) (amount_of y) ++ values_of axis pairs
values_of axis _ = []

-- The fault of a pair at a place: its first item has no value, or isn't greater than the last one before it that has a
-- value; or else its second item has none.
abbrev pub y_fault : ℕ → Option ℤ → Option Fault
y_fault place None = Some (fault_of_kind fault_kind.InvalidNumber place)
y_fault place (Some y) = None

abbrev pub pair_fault : Axis → Option ℤ → ℕ → Option ℤ → Option ℤ → Option Fault
pair_fault axis last place None y = Some (fault_of_kind (bad_kind axis) place)
pair_fault axis last place (Some x) y =
    if follows last x then y_fault (place + 1) y else Some (fault_of_kind (order_kind axis) place)

-- The first fault of pairs, whose items stand from a place on.
abbrev pub pairs_fault : Axis → Option ℤ → ℕ → List (List ℕ) → Option Fault
pairs_fault axis last place (x ∷ y ∷ pairs) = option_or (pair_fault axis last place (x_of axis x) (amount_of y))
    (pairs_fault axis (option_or (x_of axis x) last) (place + 2) pairs)
pairs_fault axis last place _ = None

-- Whether so many items aren't pairs: there are none, or the last one lacks its second item.
abbrev pub are_no_pairs : ℕ → Bool
are_no_pairs count = (count == 0) || (count % 2 == 1)
