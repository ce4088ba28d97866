-- The way back from a number to its day.
use Rattle.std.proofs.Common.{◌≡◌, ℕ, zero, suc, ◌+◌, ◌-◌, ◌*◌, ◌%◌, ◌<◌, ◌≤◌, ◌⊎◌, inl, inr, Bool, true, false, cond, refl, sym, ap, ◌∙◌, arith, ℤ, pos, ◌-ℤ◌, ◌+ℤ◌, ◌≤ℤ◌, unsigned_abs, int_le}
use borrow.Author.Differences.{up, down}
use Rattle.std.proofs.lemmas.Bool.{cases_order}
use Rattle.std.proofs.lemmas.Int.{ints}
use Rattle.jiff_core.proofs.SignedLemmas.{signed_arith}
use Rattle.calendar_steps.specs.Calendar.{days_before, day_number, IsRealDay, IsCalendarDay}
use Rattle.jiff_core.specs.declared.civil.date.Date.{Date}
use Rattle.jiff_core.specs.Date.{epoch_day}
use Rattle.jiff_core.specs.Calendar.{weekday_number}
use Rattle.jiff_core.proofs.CalendarLemmas.{weekday_number-parts}
use Rattle.calendar_steps.specs.Moment.{weekday_on}
use Rattle.calendar_steps.specs.CivilDay.{greatest, year_on, month_on, day_on, civil_on, IsCivilOf}
use Rattle.calendar_steps.specs.declared.civil.Civil.{Civil}
use Rattle.calendar_steps.proofs.CalendarLemmas.{real_epoch, before_later_year, before_later_month, in_month, in_year}

greatest_is : (passes : ℕ → Bool) (most k : ℕ) → k ≤ most → passes k ≡ true → ((j : ℕ) → k < j → passes j ≡ false) → greatest passes most ≡ k
unfolding greatest
greatest_is passes zero k low here later = omega arith
greatest_is passes (suc most) k low here later =
    elim (cases_order k (suc most)) [
      | inl same ↦ rw (← same, here) refl
      | inr (inl lt) ↦ rw (later (suc most) lt) (greatest_is passes most k (omega arith) here later)
      | inr (inr gt) ↦ absurd (omega arith)
    ]

pub not_after : (a b c : ℕ) → a ≤ b → int_le (pos a -ℤ pos c) (pos b -ℤ pos c) ≡ true
not_after a b c h = grind (arith, ints)

after : (a b c : ℕ) → b < a → int_le (pos a -ℤ pos c) (pos b -ℤ pos c) ≡ false
after a b c h = grind (arith, ints)

-- the year, month and day of the number of a real day
year_of_number : (year month day : ℕ) → IsRealDay year month day → year_on (day_number year month day) ≡ year
unfolding year_on day_number
year_of_number year month day real =
    greatest_is _ 2200 year real.year_in.1
    (not_after (days_before year 1 1) (days_before year month day) (days_before 1970 1 1) (in_year year month day))
    (λ j lt. after (days_before j 1 1) (days_before year month day) (days_before 1970 1 1) (before_later_year year month day j real lt))

month_in_year : (year month day : ℕ) → IsRealDay year month day → greatest (λ m. int_le (day_number year m 1) (day_number year month day)) 12 ≡ month
unfolding day_number
month_in_year year month day real =
    greatest_is _ 12 month real.month_in.1
    (not_after (days_before year month 1) (days_before year month day) (days_before 1970 1 1) (omega (arith, in_month year month day real.day_in.0)))
    (λ j lt. after (days_before year j 1) (days_before year month day) (days_before 1970 1 1) (before_later_month year month day j real lt))

month_of_number : (year month day : ℕ) → IsRealDay year month day → month_on (day_number year month day) ≡ month
unfolding month_on
month_of_number year month day real =
    rw (year_of_number year month day real) (month_in_year year month day real)

gap : (a b c day : ℕ) → 1 ≤ day → a + 1 ≡ b + day → unsigned_abs ((pos a -ℤ pos c) -ℤ (pos b -ℤ pos c)) + 1 ≡ day
gap a b c day low same =
    let between : (pos a -ℤ pos c) -ℤ (pos b -ℤ pos c) ≡ pos (day - 1) = omega (arith, signed_arith) in
    rw between (omega arith)

place_in_month : (year month day : ℕ) → 1 ≤ day → unsigned_abs (day_number year month day -ℤ day_number year month 1) + 1 ≡ day
unfolding day_number
place_in_month year month day low = gap _ _ _ day low (in_month year month day low)

day_of_number : (year month day : ℕ) → IsRealDay year month day → day_on (day_number year month day) ≡ day
unfolding day_on
day_of_number year month day real =
    rw (year_of_number year month day real, month_of_number year month day real)
    (place_in_month year month day real.day_in.0)

pub civil_is : (number : ℤ) (civil : Civil) → IsCivilOf number civil → civil ≡ civil_on number
unfolding civil_on
civil_is number civil of =
    rw (← of.same, year_of_number _ _ _ of.real, month_of_number _ _ _ of.real, day_of_number _ _ _ of.real) refl

-- what a date of jiff with one of our numbers shows
pub month_of_date : (date : Date) (number : ℤ) → epoch_day date ≡ number → IsCalendarDay number → month_on number ≡ date.month
month_of_date date number same range =
    let found = real_epoch date number same range in
    rw (← found.2) (month_of_number _ _ _ found.1)

pub weekday_is : (number : ℤ) → (weekday_number number + 1) % 7 + 1 ≡ weekday_on number
unfolding weekday_on
weekday_is number =
    rw (weekday_number-parts number) (omega (arith, signed_arith))

pub back_to_day : (civil : Civil) → IsRealDay civil.year civil.month civil.day → civil_on (day_number civil.year civil.month civil.day) ≡ civil
back_to_day civil real = sym (civil_is _ civil (record { real = real; same = refl }))
