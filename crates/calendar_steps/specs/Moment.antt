-- What the calendar shows at a moment, given in ms from 1970-01-01 00:00:00 (this project's profile).
use Rattle.std.specs.Prelude.{◌+◌, ◌<◌, ◌≤◌, ℕ, ℤ, pos, neg_ℤ, ◌+ℤ◌, ◌≤ℤ◌, ◌<ℤ◌, unsigned_abs}
use Rattle.std.specs.Int.{int_div_euclid, int_rem_euclid}
use Rattle.calendar_steps.specs.CivilDay.{month_on}
use Rattle.calendar_steps.specs.declared.point.CalendarPoint.{CalendarPoint}

-- a moment of the years 1900 to 2200
abbrev pub IsCalendarMoment : ℤ → Type 0
IsCalendarMoment moment =
    (neg_ℤ (pos 2_208_988_800_000) ≤ℤ moment) × (moment <ℤ pos 7_289_654_400_000)

-- the number of the day in which the moment lies
unfoldable pub day_at : ℤ → ℤ
day_at moment = int_div_euclid moment (pos 86_400_000)

-- the day of the week, from 1 for Sunday to 7 for Saturday: day 0 was a Thursday
unfoldable pub weekday_on : ℤ → ℕ
weekday_on number = unsigned_abs (int_rem_euclid (number +ℤ pos 4) (pos 7)) + 1

-- the month, the weekday and the time of day
unfoldable pub point_on : ℤ → CalendarPoint
point_on moment = record {
  month = month_on (day_at moment);
  weekday = weekday_on (day_at moment);
  ms_of_day = int_rem_euclid moment (pos 86_400_000);
}

-- a month of the year, a day of the week and a time of the day
pub record IsPoint (point : CalendarPoint) : Type 0 where
  pub month_in : (1 ≤ point.month) × (point.month ≤ 12)
  pub weekday_in : (1 ≤ point.weekday) × (point.weekday ≤ 7)
  pub time_in : (pos 0 ≤ℤ point.ms_of_day) × (point.ms_of_day <ℤ pos 86_400_000)
