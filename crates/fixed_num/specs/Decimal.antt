-- The value that a text stands for in a unit, and the text of a value (this project's profile).
use Rattle.std.specs.Prelude.{◌≡◌, ℕ, zero, suc, ◌+◌, ◌*◌, ◌/◌, ◌%◌, ◌^◌, Bool, ◌&&◌, if◌then◌else◌, ◌==◌}
use Rattle.std.specs.Prelude.{List, [], ◌∷◌, ◌++◌, decimal, ℤ, pos, negsuc, ◌*ℤ◌, unsigned_abs, int_le}
use Rattle.std.specs.Int.{is_negative}
use Rattle.std.specs.declared.option.Option.{Option}
use Rattle.std.specs.declared.option.Option.TheVariants.{None, Some}
use Rattle.fixed_num.specs.declared.number.Number.{Number}
use Rattle.fixed_num.specs.declared.unit.Unit.{Unit as Scale}
use Rattle.fixed_num.specs.Number.{signed, IsNumber, number_of}
use Rattle.fixed_num.specs.Ranges.{IsBetween}
use Rattle.fixed_num.specs.Rounding.{quo_of}

-- m * 10 ^ e of the user's unit as it is stored, rounded once, with its sign put on.
unfoldable pub stored_value : Scale → Bool → ℕ → ℤ → ℤ
stored_value unit negative m (pos e) = signed negative (quo_of (pos (m * unit.num * 10 ^ e)) (pos unit.den))
stored_value unit negative m (negsuc e) = signed negative (quo_of (pos (m * unit.num)) (pos (unit.den * 10 ^ suc e)))

-- The text is a number whose stored value is v, and v lies in the unit's range.
pub record IsStored (unit : Scale) (text : List ℕ) (v : ℤ) : Type 0 where
  pub negative : Bool
  pub m : ℕ
  pub e : ℤ
  pub number : IsNumber text negative m e
  pub value : v ≡ stored_value unit negative m e
  pub range : IsBetween unit.least v unit.most

-- The same as a function: the value if it lies in the unit's range.
abbrev pub in_range : Scale → ℤ → Option ℤ
in_range unit v = if int_le unit.least v && int_le v unit.most then Some v else None

-- The value of a number that was read, if one was.
abbrev pub value_in : Scale → Option Number → Option ℤ
value_in unit None = None
value_in unit (Some number) = in_range unit (stored_value unit number.negative number.digits number.power)

-- The value that the text stands for in the unit, if it does.
unfoldable pub scaled_of : Scale → List ℕ → Option ℤ
scaled_of unit text = value_in unit (number_of text)

-- The last k decimal digits of n.
abbrev pub last_digits : (k n : ℕ) → List ℕ
last_digits zero n = []
last_digits (suc k) n = (48 + n / 10 ^ k % 10) ∷ last_digits k n

-- n as a number of units of the last of so many decimal places.
unfoldable pub placed : (n places : ℕ) → List ℕ
placed n places = decimal (n / 10 ^ places) ++ (if places == 0 then [] else 46 ∷ last_digits places n)

-- A value in the user's unit, rounded once to so many decimal places.
unfoldable pub decimal_text : (value : ℤ) (unit : Scale) (places : ℕ) → List ℕ
decimal_text value unit places =
    let n = quo_of (value *ℤ pos (unit.den * 10 ^ places)) (pos unit.num) in
    (if is_negative n then 45 ∷ [] else []) ++ placed (unsigned_abs n) places
