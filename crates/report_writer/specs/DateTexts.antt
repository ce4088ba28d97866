-- How a report writes a moment: date and time of day, with leading zeros (this project's profile).
use Rattle.std.specs.Prelude.{ℕ, ◌/◌, ◌%◌, List, [], ◌∷◌, codes, ℤ, pos, unsigned_abs}
use Rattle.std.specs.Int.{int_rem_euclid}
use Rattle.calendar_steps.specs.CivilDay.{civil_on}
use Rattle.calendar_steps.specs.Moment.{day_at, IsCalendarMoment}
use Rattle.calendar_steps.specs.declared.civil.Civil.{Civil}
use Rattle.fixed_num.specs.Decimal.{last_digits}
use Rattle.net_types.specs.declared.options.Options.{Options}
use Rattle.report_writer.specs.Texts.{joined}

-- a day as yyyy-mm-dd
abbrev pub civil_text : Civil → List ℕ
civil_text civil = joined (last_digits 4 civil.year ∷ codes "-" ∷
    last_digits 2 civil.month ∷ codes "-" ∷ last_digits 2 civil.day ∷ [])

-- the day of a moment, which is in ms from 1970-01-01 00:00:00
unfoldable pub date_text : ℤ → List ℕ
date_text moment = civil_text (civil_on (day_at moment))

-- ms since midnight as hh:mm:ss
abbrev pub clock_text : ℕ → List ℕ
clock_text ms = joined (last_digits 2 (ms / 3_600_000) ∷ codes ":" ∷
    last_digits 2 (ms / 60_000 % 60) ∷ codes ":" ∷ last_digits 2 (ms / 1_000 % 60) ∷ [])

-- the time of day of a moment
unfoldable pub time_text : ℤ → List ℕ
time_text moment = clock_text (unsigned_abs (int_rem_euclid moment (pos 86_400_000)))

-- start and end of a run lie in the years 1900 to 2200
pub record HasCalendarDates (options : Options) : Type 0 where
  pub start : IsCalendarMoment options.start
  pub finish : IsCalendarMoment options.finish
