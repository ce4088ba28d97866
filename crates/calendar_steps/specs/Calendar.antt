-- The proleptic Gregorian calendar: leap years, months and the numbers of days (this project's profile).
use Rattle.std.specs.Prelude.{ℕ, zero, suc, ◌+◌, ◌-◌, ◌%◌, ◌≤◌, Bool, not, ◌&&◌, ◌||◌, ◌==◌}
use Rattle.std.specs.Prelude.{nat_le, if◌then◌else◌, ℤ, pos, neg_ℤ, ◌-ℤ◌, ◌≤ℤ◌, Some, None}
use Rattle.std.specs.declared.option.Option.{Option}

-- every fourth year is a leap year, but of the centuries only every fourth
abbrev pub is_leap_year : ℕ → Bool
is_leap_year year = (year % 4 == 0) && (not (year % 100 == 0) || (year % 400 == 0))

-- the days of a year
abbrev pub days_in_year : ℕ → ℕ
days_in_year year = if is_leap_year year then 366 else 365

-- thirty days have September, April, June and November
abbrev pub days_in_month : ℕ → ℕ → ℕ
days_in_month year month =
    if month == 2 then (if is_leap_year year then 29 else 28)
    else (if (month == 4) || (month == 6) || (month == 9) || (month == 11) then 30 else 31)

-- the days of all years from the year 0 up to the one before this
unfoldable pub days_before_year : ℕ → ℕ
days_before_year zero = 0
days_before_year (suc year) = days_before_year year + days_in_year year

-- the days of the first months of a year
unfoldable pub days_of_months : ℕ → ℕ → ℕ
days_of_months year zero = 0
days_of_months year (suc months) = days_of_months year months + days_in_month year (suc months)

-- the days from 1 January of the year 0 up to the day
unfoldable pub days_before : ℕ → ℕ → ℕ → ℕ
days_before year month day = days_before_year year + days_of_months year (month - 1) + (day - 1)

-- the number of a day: 0 for 1 January 1970, and negative before it
unfoldable pub day_number : ℕ → ℕ → ℕ → ℤ
day_number year month day = pos (days_before year month day) -ℤ pos (days_before 1970 1 1)

-- the calendar has the day, and its year is one of 1900 to 2200
pub record IsRealDay (year month day : ℕ) : Type 0 where
  pub year_in : (1900 ≤ year) × (year ≤ 2200)
  pub month_in : (1 ≤ month) × (month ≤ 12)
  pub day_in : (1 ≤ day) × (day ≤ days_in_month year month)

-- the same as a test
abbrev pub is_real_day : ℕ → ℕ → ℕ → Bool
is_real_day year month day =
    nat_le 1900 year && nat_le year 2200 && nat_le 1 month && nat_le month 12
    && nat_le 1 day && nat_le day (days_in_month year month)

-- the number of a real day, and none for other numbers
unfoldable pub number_if_real : ℕ → ℕ → ℕ → Option ℤ
number_if_real year month day =
    if is_real_day year month day then Some (day_number year month day) else None

-- a number of a day from 1 January 1900 to 31 December 2200
abbrev pub IsCalendarDay : ℤ → Type 0
IsCalendarDay number = (neg_ℤ (pos 25_567) ≤ℤ number) × (number ≤ℤ pos 84_370)
