-- Hours and seconds, each as a clock or as a number (this project's profile).
use Rattle.std.specs.Prelude.{◌≡◌, ℕ, ◌*◌, ◌^◌, ◌⊎◌, List, ℤ, pos, ◌+ℤ◌}
use Rattle.std.specs.Option.{option_or, option_map}
use Rattle.std.specs.declared.option.Option.{Option}
use Rattle.fixed_num.specs.declared.unit.Unit.{Unit as Scale}
use Rattle.fixed_num.specs.Decimal.{IsStored, scaled_of}
use Rattle.inp_values.specs.Clock.{IsClock, clock_of}

-- decimal hours in ms, from 0 to 10^12
abbrev pub hours_unit : Scale
hours_unit = record { num = 3_600_000; den = 1; least = pos 0; most = pos (10 ^ 12) }

-- decimal seconds in units of 2 ms, so that their ms are even and lie from 0 to 10^12
abbrev pub seconds_unit : Scale
seconds_unit = record { num = 500; den = 1; least = pos 0; most = pos (5 * 10 ^ 11) }

-- the text is a clock of so many ms, or a number of hours that are so many
abbrev pub IsHours : List ℕ → ℤ → Type 0
IsHours text ms = IsClock text ms ⊎ IsStored hours_unit text ms

-- the text is a clock of so many ms, or a number of seconds whose ms are twice the stored value
abbrev pub IsSeconds : List ℕ → ℤ → Type 0
IsSeconds text ms = IsClock text ms ⊎ ((half : ℤ) × IsStored seconds_unit text half × (ms ≡ half +ℤ half))

-- the same as functions
unfoldable pub hours_of : List ℕ → Option ℤ
hours_of text = option_or (clock_of text) (scaled_of hours_unit text)

unfoldable pub seconds_of : List ℕ → Option ℤ
seconds_of text = option_or (clock_of text) (option_map (λ half. half +ℤ half) (scaled_of seconds_unit text))
