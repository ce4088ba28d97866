-- Whole numbers that are written by digits and nothing else (this project's profile).
use Rattle.std.specs.Prelude.{◌≡◌, ℕ, ◌≤◌, Bool, ◌&&◌, nat_le, if◌then◌else◌, List, length}
use Rattle.std.specs.Char.{is_ascii_digit}
use Rattle.std.specs.List.{list_all}
use Rattle.std.specs.declared.option.Option.{Option}
use Rattle.std.specs.declared.option.Option.TheVariants.{None, Some}
use Rattle.fixed_num.specs.Number.{AreDigits, digits_after}

-- the text is digits, at least and at most so many, and they write n
pub record IsField (least most : ℕ) (text : List ℕ) (n : ℕ) : Type 0 where
  pub digits : AreDigits text
  pub at_least : least ≤ length text
  pub at_most : length text ≤ most
  pub value : n ≡ digits_after 0 text

-- the same as a test and a function
abbrev pub is_field : ℕ → ℕ → List ℕ → Bool
is_field least most text =
    list_all is_ascii_digit text && nat_le least (length text) && nat_le (length text) most

unfoldable pub field_of : ℕ → ℕ → List ℕ → Option ℕ
field_of least most text = if is_field least most text then Some (digits_after 0 text) else None

-- a whole number has one to nine digits
abbrev pub IsWhole : List ℕ → ℕ → Type 0
IsWhole text n = IsField 1 9 text n

abbrev pub whole_of : List ℕ → Option ℕ
whole_of text = field_of 1 9 text
