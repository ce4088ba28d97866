-- Clock times `h:mm` and `h:mm:ss` (this project's profile).
use Rattle.std.specs.Prelude.{◌≡◌, ℕ, ◌+◌, ◌-◌, ◌*◌, ◌<◌, ◌&&◌, ◌==◌, nat_lt}
use Rattle.std.specs.Prelude.{if◌then◌else◌, List, [], ◌∷◌, ◌++◌, ℤ, pos, ◌<ℤ◌, int_lt}
use Rattle.std.specs.Char.{is_ascii_digit}
use Rattle.std.specs.List.{take_while}
use Rattle.std.specs.declared.option.Option.{Option}
use Rattle.std.specs.declared.option.Option.TheVariants.{None, Some}
use Rattle.fixed_num.specs.Number.{past_digits}
use Rattle.inp_values.specs.Field.{IsField, field_of}

-- what follows the hours: a colon and minutes, perhaps a colon and seconds, of two digits each
pub data IsClockEnd : List ℕ → ℕ → ℕ → Type 0 where
  minutes_alone : {minutes : List ℕ} {m : ℕ} → IsField 2 2 minutes m → IsClockEnd (58 ∷ minutes) m 0
  with_seconds : {minutes seconds : List ℕ} {m s : ℕ} → IsField 2 2 minutes m → IsField 2 2 seconds s
      → IsClockEnd (58 ∷ (minutes ++ (58 ∷ seconds))) m s

-- the text is a clock of so many ms: one to five digits of hours, minutes and seconds below 60
pub record IsClock (text : List ℕ) (ms : ℤ) : Type 0 where
  pub hours : List ℕ
  pub rest : List ℕ
  pub h : ℕ
  pub m : ℕ
  pub s : ℕ
  pub parts : text ≡ hours ++ rest
  pub is_hours : IsField 1 5 hours h
  pub is_rest : IsClockEnd rest m s
  pub minutes : m < 60
  pub seconds : s < 60
  pub value : ms ≡ pos ((h * 3600 + m * 60 + s) * 1000)

-- The same as a function, part by part.
-- two digits that write a number below 60
abbrev pub sixtieths_of : ℕ → ℕ → Option ℕ
sixtieths_of a b =
    if is_ascii_digit a && is_ascii_digit b && nat_lt ((a - 48) * 10 + (b - 48)) 60
    then Some ((a - 48) * 10 + (b - 48)) else None

-- minutes and seconds, as seconds
abbrev pub seconds_in : Option ℕ → Option ℕ → Option ℕ
seconds_in None s = None
seconds_in (Some m) None = None
seconds_in (Some m) (Some s) = Some (m * 60 + s)

-- the seconds that the end of a clock writes
abbrev pub clock_end_of : List ℕ → Option ℕ
clock_end_of (c ∷ a ∷ b ∷ []) = if c == 58 then seconds_in (sixtieths_of a b) (Some 0) else None
clock_end_of (c ∷ a ∷ b ∷ d ∷ e ∷ f ∷ []) =
    if c == 58 && d == 58 then seconds_in (sixtieths_of a b) (sixtieths_of e f) else None
clock_end_of _ = None

-- hours and seconds, as ms
abbrev pub ms_in : Option ℕ → Option ℕ → Option ℤ
ms_in None s = None
ms_in (Some h) None = None
ms_in (Some h) (Some s) = Some (pos ((h * 3600 + s) * 1000))

-- the ms that a clock writes
unfoldable pub clock_of : List ℕ → Option ℤ
clock_of text = ms_in (field_of 1 5 (take_while is_ascii_digit text)) (clock_end_of (past_digits text))

-- a value of the day: the clock has hours below 24
abbrev pub below_a_day : Option ℤ → Option ℤ
below_a_day None = None
below_a_day (Some ms) = if int_lt ms (pos 86_400_000) then Some ms else None

abbrev pub time_of_day_of : List ℕ → Option ℤ
time_of_day_of text = below_a_day (clock_of text)

pub record IsTimeOfDay (text : List ℕ) (ms : ℤ) : Type 0 where
  pub clock : IsClock text ms
  pub below : ms <ℤ pos 86_400_000
