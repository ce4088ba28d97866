-- Dates `m/d/yyyy` and `m-d-yyyy` (this project's profile).
use Rattle.std.specs.Prelude.{◌≡◌, ℕ, ◌≤◌, ◌||◌, ◌==◌, nat_le, if◌then◌else◌, ◌⊎◌, List, [], ◌∷◌, ◌++◌, ℤ}
use Rattle.std.specs.Char.{is_ascii_digit}
use Rattle.std.specs.List.{take_while}
use Rattle.std.specs.declared.option.Option.{Option}
use Rattle.std.specs.declared.option.Option.TheVariants.{None, Some}
use Rattle.calendar_steps.specs.Calendar.{day_number, number_if_real, IsRealDay}
use Rattle.fixed_num.specs.Number.{past_digits}
use Rattle.inp_values.specs.Field.{IsField, field_of}

-- the text is the date of the day with that number, month first: one or two digits of month and of day, four of
-- the year, the same mark between them, a real day of the years 1900 to 2100
pub record IsDate (text : List ℕ) (number : ℤ) : Type 0 where
  pub month : List ℕ
  pub day : List ℕ
  pub year : List ℕ
  pub mark : ℕ
  pub m : ℕ
  pub d : ℕ
  pub y : ℕ
  pub parts : text ≡ month ++ (mark ∷ (day ++ (mark ∷ year)))
  pub is_mark : (mark ≡ 47) ⊎ (mark ≡ 45)
  pub is_month : IsField 1 2 month m
  pub is_day : IsField 1 2 day d
  pub is_year : IsField 4 4 year y
  pub real : IsRealDay y m d
  pub last : y ≤ 2100
  pub value : number ≡ day_number y m d

-- The same as a function, part by part.
-- the number of a real day up to the year 2100
abbrev pub numbered : Option ℕ → Option ℕ → Option ℕ → Option ℤ
numbered None d y = None
numbered (Some m) None y = None
numbered (Some m) (Some d) None = None
numbered (Some m) (Some d) (Some y) = if nat_le y 2100 then number_if_real y m d else None

-- a year behind this mark
abbrev pub year_of : ℕ → List ℕ → Option ℕ
year_of mark [] = None
year_of mark (c ∷ year) = if c == mark then field_of 4 4 year else None

-- a day and a year behind a mark
abbrev pub date_after : Option ℕ → List ℕ → Option ℤ
date_after month [] = None
date_after month (mark ∷ rest) =
    if mark == 47 || mark == 45
    then numbered month (field_of 1 2 (take_while is_ascii_digit rest)) (year_of mark (past_digits rest))
    else None

-- the number of the day that a date names
unfoldable pub date_of : List ℕ → Option ℤ
date_of text = date_after (field_of 1 2 (take_while is_ascii_digit text)) (past_digits text)
