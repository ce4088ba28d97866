-- The year, month and day that a day's number stands for (this project's profile).
use Rattle.std.specs.Prelude.{◌≡◌, ℕ, zero, suc, ◌+◌, Bool, if◌then◌else◌, ℤ, ◌-ℤ◌, int_le, unsigned_abs}
use Rattle.calendar_steps.specs.Calendar.{day_number, IsRealDay}
use Rattle.calendar_steps.specs.declared.civil.Civil.{Civil}

-- the three parts are those of a real day that has the number
pub record IsCivilOf (number : ℤ) (civil : Civil) : Type 0 where
  pub real : IsRealDay civil.year civil.month civil.day
  pub same : day_number civil.year civil.month civil.day ≡ number

-- the greatest number up to `most` that passes the test, and 0 if none does
unfoldable pub greatest : (ℕ → Bool) → ℕ → ℕ
greatest passes zero = zero
greatest passes (suc most) = if passes (suc most) then suc most else greatest passes most

-- the last year that has begun on the day
unfoldable pub year_on : ℤ → ℕ
year_on number = greatest (λ year. int_le (day_number year 1 1) number) 2200

-- the last month of that year that has begun
unfoldable pub month_on : ℤ → ℕ
month_on number = greatest (λ month. int_le (day_number (year_on number) month 1) number) 12

-- the place of the day in that month, from 1
unfoldable pub day_on : ℤ → ℕ
day_on number = unsigned_abs (number -ℤ day_number (year_on number) (month_on number) 1) + 1

-- all three
unfoldable pub civil_on : ℤ → Civil
civil_on number = record { year = year_on number; month = month_on number; day = day_on number }
