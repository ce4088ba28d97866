-- The grammar of numbers in a text, and the number that a text stands for (this project's profile).
use Rattle.std.specs.Prelude.{◌≡◌, ℕ, ◌+◌, ◌-◌, ◌*◌, ◌^◌, ◌<◌, ◌≤◌, Bool, true, false, ◌&&◌}
use Rattle.std.specs.Prelude.{◌||◌, ◌==◌, nat_lt, nat_le, IsTrue, if◌then◌else◌, ◌⊎◌, ⊤, List}
use Rattle.std.specs.Prelude.{[], ◌∷◌, ◌++◌, length, drop, ℤ, pos, negsuc, neg_ℤ, ◌-ℤ◌}
use Rattle.std.specs.Char.{is_ascii_digit}
use Rattle.std.specs.List.{take_while, prefix_len}
use Rattle.std.specs.declared.option.Option.{Option}
use Rattle.std.specs.declared.option.Option.TheVariants.{None, Some}
use Rattle.fixed_num.specs.declared.number.Number.{Number}
use Rattle.fixed_num.specs.Ranges.{IsBetween}

-- The number with a sign put on.
abbrev pub signed : Bool → ℤ → ℤ
signed negative z = if negative then neg_ℤ z else z

-- Each byte is a digit.
abbrev pub AreDigits : List ℕ → Type 0
AreDigits [] = ⊤
AreDigits (c ∷ cs) = IsTrue (is_ascii_digit c) × AreDigits cs

-- The number that digits write, where those of n stand before them.
abbrev pub digits_after : ℕ → List ℕ → ℕ
digits_after n [] = n
digits_after n (c ∷ cs) = digits_after (n * 10 + (c - 48)) cs

-- A sign, and whether it is a minus.
pub data IsSign : List ℕ → Bool → Type 0 where
  no_sign : IsSign [] false
  plus_sign : IsSign (43 ∷ []) false
  minus_sign : IsSign (45 ∷ []) true

-- A point with the digits after it, or nothing.
pub data IsFraction : List ℕ → List ℕ → Type 0 where
  no_point : IsFraction [] []
  with_point : {digits : List ℕ} → AreDigits digits → IsFraction (46 ∷ digits) digits

-- `e` or `E`, a sign and one digit, or nothing; and the power of ten that it writes.
pub data IsPower : List ℕ → ℤ → Type 0 where
  no_power : IsPower [] (pos 0)
  with_power : (mark digit : ℕ) (sign : List ℕ) (negative : Bool) → (mark ≡ 101) ⊎ (mark ≡ 69)
      → IsSign sign negative → IsTrue (is_ascii_digit digit)
      → IsPower (mark ∷ (sign ++ digit ∷ [])) (signed negative (pos (digit - 48)))

-- The text is a number: an optional sign, digits with at most one point among, before or after them, at least
-- one of them, at most 18 once leading zeros are dropped, at most 18 after the point, and a power of one digit
-- or none; in at most 40 bytes. It stands for m * 10 ^ e, below 0 where `negative`.
pub record IsNumber (text : List ℕ) (negative : Bool) (m : ℕ) (e : ℤ) : Type 0 where
  pub sign : List ℕ
  pub whole : List ℕ
  pub point : List ℕ
  pub fraction : List ℕ
  pub power : List ℕ
  pub written : ℤ
  pub parts : text ≡ sign ++ (whole ++ (point ++ power))
  pub is_sign : IsSign sign negative
  pub is_whole : AreDigits whole
  pub is_fraction : IsFraction point fraction
  pub is_power : IsPower power written
  pub short : length text ≤ 40
  pub some_digit : 0 < length (whole ++ fraction)
  pub places : length fraction ≤ 18
  pub value : m ≡ digits_after 0 (whole ++ fraction)
  pub digits : m < 10 ^ 18
  pub exponent : e ≡ written -ℤ pos (length fraction)

-- The same as a function, part by part.
-- What follows the digits at the front.
abbrev pub past_digits : List ℕ → List ℕ
past_digits text = drop (prefix_len is_ascii_digit text) text

-- A minus stands first.
abbrev pub is_minus : List ℕ → Bool
is_minus [] = false
is_minus (c ∷ cs) = c == 45

-- What follows a sign, if one stands first.
abbrev pub past_sign : List ℕ → List ℕ
past_sign [] = []
past_sign (c ∷ cs) = if c == 43 || c == 45 then cs else c ∷ cs

-- The digits after a point, if one stands first.
abbrev pub fraction_of : List ℕ → List ℕ
fraction_of [] = []
fraction_of (c ∷ cs) = if c == 46 then take_while is_ascii_digit cs else []

-- What follows a point and its digits, if one stands first.
abbrev pub past_fraction : List ℕ → List ℕ
past_fraction [] = []
past_fraction (c ∷ cs) = if c == 46 then past_digits cs else c ∷ cs

-- The exponent that is one digit.
abbrev pub exponent_of : Bool → List ℕ → Option ℤ
exponent_of negative [] = None
exponent_of negative (c ∷ []) = if is_ascii_digit c then Some (signed negative (pos (c - 48))) else None
exponent_of negative (c ∷ d ∷ cs) = None

-- The power of ten that the end of a number writes.
abbrev pub power_of : List ℕ → Option ℤ
power_of [] = Some (pos 0)
power_of (c ∷ cs) = if c == 101 || c == 69 then exponent_of (is_minus cs) (past_sign cs) else None

-- The number of its parts, within the limits.
unfoldable pub joined : Bool → List ℕ → List ℕ → Option ℤ → Option Number
joined negative whole fraction None = None
joined negative whole fraction (Some written) =
    if nat_lt 0 (length (whole ++ fraction)) && nat_le (length fraction) 18
    && nat_lt (digits_after 0 (whole ++ fraction)) (10 ^ 18)
    then Some (record {
      negative = negative;
      digits = digits_after 0 (whole ++ fraction);
      power = written -ℤ pos (length fraction);
    })
    else None

-- The number that the text stands for, if it is one.
unfoldable pub number_of : List ℕ → Option Number
number_of text =
    let front = past_sign text in
    let rest = past_digits front in
    if nat_le (length text) 40
    then joined (is_minus text) (take_while is_ascii_digit front) (fraction_of rest) (power_of (past_fraction rest))
    else None

-- A number of a text has at most 18 digits, and a power from -27 to 9.
pub record IsSmall (number : Number) : Type 0 where
  pub digits : number.digits < 10 ^ 18
  pub power : IsBetween (negsuc 26) number.power (pos 9)
