-- Numbers of days are those of `jiff`, which brings its laws of the calendar.
use Rattle.std.proofs.Common.{◌≡◌, ℕ, zero, suc, ◌+◌, ◌-◌, ◌<◌, ◌≤◌, ◌⊎◌, inl, inr, refl, sym, ap, ◌∙◌, arith, ℤ, pos, negsuc, neg_ℤ, ◌+ℤ◌, ◌-ℤ◌, ◌≤ℤ◌, ◌<ℤ◌, unsigned_abs, Some, None, Bool, true, false, ◌&&◌, cond, nat_le}
use Rattle.jiff_core.specs.declared.civil.date.Date.{Date}
use Rattle.jiff_core.specs.Date.{epoch_day, IsYmd}
use Rattle.std.proofs.lemmas.Bool.Decides.{nat_tests}
use Rattle.jiff_core.specs.Calendar.{IsCivilDate, days_in_month as jiff_days_in_month, day_of_year, days_from_civil, days_in_year as jiff_days_in_year, days_of_years, days_of_months as jiff_days_of_months, day_count}
use Rattle.jiff_core.proofs.SignedLemmas.{signed_arith}
use Rattle.jiff_core.proofs.MarchLemmas.{leap_day, leap_day-shift, days_in_year-leap_day, days_of_years-suc, day_count-early, day_count-late}
use Rattle.jiff_core.proofs.CalendarLemmas.{days_from_civil-day_count, day_count-lt_year, day_count-lt_month, day_count-day, day_count-day_of_year, day_count-later_year, day_of_year_bound}
use Rattle.calendar_steps.specs.Calendar.{days_in_year, days_in_month, days_before_year, days_of_months, days_before, day_number, number_if_real, is_real_day, IsRealDay, IsCalendarDay}
use Rattle.std.proofs.lemmas.Bool.{cases_order}
use Rattle.std.proofs.lemmas.Int.{by_lt_z}
use Rattle.jiff_core.proofs.DateLemmas.{civil}
use borrow.Author.Differences.{up, down}

same_years : (year : ℕ) → days_of_years (year + 10000) ≡ days_of_years 10000 + days_before_year year
unfolding days_before_year
same_years zero = omega arith
same_years (suc year) =
    let next : suc year + 10000 ≡ suc (year + 10000) = omega arith in
    rw next (omega (arith, same_years year, days_of_years-suc (year + 10000), leap_day-shift (pos year) (year + 10000) refl, days_in_year-leap_day (pos year)))

same_months : (year months : ℕ) → jiff_days_of_months (pos year) months ≡ days_of_months year months
unfolding days_of_months jiff_days_of_months
same_months year zero = refl
same_months year (suc months) = rw (same_months year months)

-- the two counts begin at different days
pub same_count : (year month day : ℕ) → 1 ≤ day → day_count (pos year) month day ≡ days_of_years 10000 + days_before year month day
unfolding day_count days_before
same_count year month day low =
    omega (arith, same_years year, same_months year (month - 1))

-- so the numbers are the same
pub same_number : (year month day : ℕ) → 1 ≤ day → days_from_civil (pos year) month day ≡ day_number year month day
unfolding days_from_civil day_number
same_number year month day low =
    omega (arith, signed_arith, same_count year month day low, same_count 1970 1 1 (omega arith))

real_civil : (year month day : ℕ) → IsRealDay year month day → IsCivilDate (pos year) month day
real_civil year month day real = ((omega (arith, signed_arith), omega (arith, signed_arith)), real.month_in, real.day_in)

-- a later year begins after the day
pub before_later_year : (year month day later : ℕ) → IsRealDay year month day → year < later → days_before year month day < days_before later 1 1
before_later_year year month day later real lt =
    omega (arith, same_count year month day real.day_in.0, same_count later 1 1 (omega arith), day_count-lt_year (pos year) month day (pos later) 1 1 (real_civil year month day real) (omega arith) (omega (arith, signed_arith)))

-- and so does a later month
pub before_later_month : (year month day later : ℕ) → IsRealDay year month day → month < later → days_before year month day < days_before year later 1
before_later_month year month day later real lt =
    omega (arith, same_count year month day real.day_in.0, same_count year later 1 (omega arith), day_count-lt_month (pos year) month day later 1 (real_civil year month day real) (omega arith) lt)

-- the day is that many days after the first of its month
pub in_month : (year month day : ℕ) → 1 ≤ day → days_before year month day + 1 ≡ days_before year month 1 + day
unfolding days_before
in_month year month day low = omega arith

-- and lies in its year
pub in_year : (year month day : ℕ) → days_before year 1 1 ≤ days_before year month day
unfolding days_before days_of_months
in_year year month day = omega arith

-- the days of jiff's count at the ends of our years
count_1900 : day_count (pos 1900) 1 1 ≡ 4_346_386
count_1900 = day_count-early (pos 1900) 11899 1 1 refl (omega arith) (omega arith) (omega arith)

count_2200 : day_count (pos 2200) 12 31 ≡ 4_456_323
count_2200 = day_count-late (pos 2200) 12200 12 31 refl (omega arith) (omega arith) (omega arith)

count_2201 : day_count (pos 2201) 1 1 ≡ 4_456_324
count_2201 = day_count-early (pos 2201) 12200 1 1 refl (omega arith) (omega arith) (omega arith)

-- the place of a day in its year is at least its place in the month
day_of_year_least : (year month day : ℕ) → 1 ≤ day → 1 ≤ day_of_year (pos year) month day
day_of_year_least year month day low = omega arith

-- the years of the numbers from the first to the last
years_of_numbers : (year : ℤ) (month day : ℕ) → IsCivilDate year month day → IsCalendarDay (days_from_civil year month day) → (pos 1900 ≤ℤ year) × (year ≤ℤ pos 2200)
years_of_numbers year month day valid number =
    let low : pos 1900 ≤ℤ year =
    by_lt_z year (pos 1900)
    (λ lt. absurd (omega (arith, signed_arith, count_1900, days_from_civil-day_count year month day, day_count-lt_year year month day (pos 1900) 1 1 valid (omega arith) lt)))
    (λ le. le) in
    let last : IsCivilDate (pos 2200) 12 31 = real_civil 2200 12 31 (record { year_in = (omega arith, omega arith); month_in = (omega arith, omega arith); day_in = (omega arith, omega arith) }) in
    let high : year ≤ℤ pos 2200 =
    by_lt_z (pos 2200) year
    (λ lt. absurd (omega (arith, signed_arith, count_2200, days_from_civil-day_count year month day, day_count-lt_year (pos 2200) 12 31 year month day last valid.2.0 lt)))
    (λ le. le) in
    (low, high)

-- a date of jiff whose number is one of ours is a real day, and keeps its number
pub real_date : (year : ℤ) (month day : ℕ) → IsCivilDate year month day → IsCalendarDay (days_from_civil year month day) → (year ≡ pos (unsigned_abs year)) × IsRealDay (unsigned_abs year) month day × (day_number (unsigned_abs year) month day ≡ days_from_civil year month day)
real_date (pos year) month day valid number =
    let years = years_of_numbers (pos year) month day valid number in
    (refl, record { year_in = (omega (arith, signed_arith), omega (arith, signed_arith)); month_in = valid.1; day_in = valid.2 }, sym (same_number year month day valid.2.0))
real_date (negsuc year) month day valid number =
    absurd (omega (arith, signed_arith, (years_of_numbers (negsuc year) month day valid number).0))

from_1900 : (year month day : ℕ) → IsRealDay year month day → day_count (pos 1900) 1 1 ≤ day_count (pos year) month day
from_1900 year month day real =
    let first : IsCivilDate (pos 1900) 1 1 = real_civil 1900 1 1 (record { year_in = (omega arith, omega arith); month_in = (omega arith, omega arith); day_in = (omega arith, omega arith) }) in
    elim (cases_order 1900 year) [
      | inl same ↦ rw same (omega (arith, day_count-day_of_year (pos year) month day real.day_in.0, day_of_year_least year month day real.day_in.0))
      | inr (inl lt) ↦ omega (arith, day_count-lt_year (pos 1900) 1 1 (pos year) month day first real.day_in.0 (omega (arith, signed_arith)))
      | inr (inr gt) ↦ absurd (omega arith)
    ]

to_2200 : (year month day : ℕ) → IsRealDay year month day → day_count (pos year) month day < 4_456_324
to_2200 year month day real =
    omega (arith, count_2201, day_count-lt_year (pos year) month day (pos 2201) 1 1 (real_civil year month day real) (omega arith) (omega (arith, signed_arith)))

-- the numbers of real days lie between the first and the last
pub real_range : (year month day : ℕ) → IsRealDay year month day → IsCalendarDay (day_number year month day)
real_range year month day real =
    rw (← same_number year month day real.day_in.0)
    (omega (arith, signed_arith, days_from_civil-day_count (pos year) month day, count_1900, from_1900 year month day real), omega (arith, signed_arith, days_from_civil-day_count (pos year) month day, to_2200 year month day real))

-- the test says what the record says
pub real_found : (year month day : ℕ) → IsRealDay year month day → number_if_real year month day ≡ Some (day_number year month day)
unfolding number_if_real
real_found year month day real = grind (arith, nat_tests, real.year_in, real.month_in, real.day_in)

pub unreal_none : (year month day : ℕ) → ¬ (IsRealDay year month day) → number_if_real year month day ≡ None
unfolding number_if_real
unreal_none year month day unreal =
    let P : Type 0 = (1900 ≤ year) × (year ≤ 2200) × (1 ≤ month) × (month ≤ 12) × (1 ≤ day) × (day ≤ days_in_month year month) in
    let not_all : ¬ P = λ all. unreal (record { year_in = (all.0, all.1); month_in = (all.2, all.3); day_in = (all.4, all.5) }) in
    grind (arith, nat_tests, not_all)

-- the number of a date of jiff with these parts
pub number_of_date : (year month day : ℕ) (date : Date) → IsYmd (pos year) (pos month) (pos day) date → epoch_day date ≡ day_number year month day
number_of_date year month day date same =
    let m : date.month ≡ month = omega (arith, signed_arith, same.1) in
    let d : date.day ≡ day = omega (arith, signed_arith, same.2) in
    let low : 1 ≤ day = rw d at date.day_in.0 in
    rw (same.0, m, d) (same_number year month day low)

pub number_1970 : day_number 1970 1 1 ≡ pos 0
unfolding day_number
number_1970 = omega (arith, signed_arith)

-- 1 January 1970 is day 0
pub epoch_is_zero : (date : Date) → IsYmd (pos 1970) (pos 1) (pos 1) date → epoch_day date ≡ pos 0
epoch_is_zero date same = number_of_date 1970 1 1 date same ∙ number_1970

-- what a date of jiff with one of our numbers is
pub real_epoch : (date : Date) (number : ℤ) → epoch_day date ≡ number → IsCalendarDay number → (date.year ≡ pos (unsigned_abs date.year)) × IsRealDay (unsigned_abs date.year) date.month date.day × (day_number (unsigned_abs date.year) date.month date.day ≡ number)
real_epoch date number same range =
    let found = real_date date.year date.month date.day (civil date) (rw same range) in
    (found.0, found.1, found.2 ∙ same)

-- the numbers of three more days
pub number_1900 : day_number 1900 1 1 ≡ neg_ℤ (pos 25_567)
number_1900 = rw (← same_number 1900 1 1 (omega arith)) (omega (arith, signed_arith, days_from_civil-day_count (pos 1900) 1 1, count_1900))

pub number_2200 : day_number 2200 12 31 ≡ pos 84_370
number_2200 = rw (← same_number 2200 12 31 (omega arith)) (omega (arith, signed_arith, days_from_civil-day_count (pos 2200) 12 31, count_2200))

count_2000 : day_count (pos 2000) 2 29 ≡ 4_382_969
count_2000 = day_count-early (pos 2000) 11999 2 29 refl (omega arith) (omega arith) (omega arith)

pub number_2000 : day_number 2000 2 29 ≡ pos 11_016
number_2000 = rw (← same_number 2000 2 29 (omega arith)) (omega (arith, signed_arith, days_from_civil-day_count (pos 2000) 2 29, count_2000))

chosen : (b : Bool) (v n : ℤ) → cond b (Some v) None ≡ Some n → (b ≡ true) × (n ≡ v)
chosen true v n e = (refl, cc)
chosen false v n e = absurd (cc)

six : (year month day most : ℕ) → (nat_le 1900 year && nat_le year 2200 && nat_le 1 month && nat_le month 12 && nat_le 1 day && nat_le day most) ≡ true → (1900 ≤ year) × (year ≤ 2200) × (1 ≤ month) × (month ≤ 12) × (1 ≤ day) × (day ≤ most)
six year month day most h = grind (arith, nat_tests)

real_passed : (year month day : ℕ) → is_real_day year month day ≡ true → IsRealDay year month day
real_passed year month day h =
    let all : (1900 ≤ year) × (year ≤ 2200) × (1 ≤ month) × (month ≤ 12) × (1 ≤ day) × (day ≤ days_in_month year month) = six year month day (days_in_month year month) h in
    record { year_in = (all.0, all.1); month_in = (all.2, all.3); day_in = (all.4, all.5) }

-- a number that is found is that of a real day
pub real_told : (year month day : ℕ) (number : ℤ) → number_if_real year month day ≡ Some number → IsRealDay year month day × (number ≡ day_number year month day)
unfolding number_if_real
real_told year month day number e =
    let two = chosen (is_real_day year month day) (day_number year month day) number e in
    (real_passed year month day two.0, two.1)
