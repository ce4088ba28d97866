-- The times of a series lie in their range.
use Rattle.std.proofs.Common.{◌≡◌, ◌∷◌, ◌++◌, [], ◌≤◌, ◌<◌, length, ℕ, zero, suc, ◌+◌, ◌*◌, ◌^◌, List, Bool, true, false, cond}
use Rattle.std.proofs.Common.{Option, Some, None, refl, ap, sym, subst, arith, ℤ, pos, neg_ℤ, ◌≤ℤ◌, filter_map}
use Rattle.std.specs.List.{last_or, cons_option}
use Rattle.std.specs.Option.{option_map, option_or, IfSome}
use Rattle.std.proofs.lemmas.Int.{ints}
use Rattle.calendar_steps.specs.Calendar.{day_number, days_before, days_before_year, days_in_year, days_of_months, is_leap_year, IsRealDay}
use Rattle.calendar_steps.proofs.CalendarLemmas.{before_later_year, in_year, number_2200, real_range}
use Rattle.fixed_num.specs.Decimal.{IsStored, scaled_of}
use Rattle.fixed_num.specs.Ranges.{IsMoment, IsRaw, IsSeriesTime}
use Rattle.fixed_num.proofs.DecimalLemmas.{IsStored-scaled_of}
use Rattle.fixed_num.proofs.Bounds.{within_both, within_minus, within_number}
use Rattle.net_types.specs.declared.options.FlowUnits.TheVariants.{Cms}
use Rattle.inp_values.specs.declared.quantities.Quantity.TheVariants.{Raw}
use Rattle.inp_values.specs.CalendarDate.{date_of}
use Rattle.inp_values.specs.Clock.{IsClock, clock_of}
use Rattle.inp_values.specs.Duration.{hours_of, hours_unit}
use Rattle.inp_values.specs.Field.{IsField}
use Rattle.inp_values.specs.Units.{unit_for}
use Rattle.inp_values.proofs.ClockLemmas.{clock_told}
use Rattle.inp_values.proofs.DateLemmas.{date_told}
use Rattle.inp_values.proofs.FieldLemmas.{count_fits, digits_after_below}
use Rattle.inp_lines.specs.declared.line.Line.{Line}
use Rattle.inp_lines.specs.Faults.{token_at}
use Rattle.inp_series.specs.Pairs.{amount_of, moved, x_of}
use Rattle.inp_series.specs.SeriesLines.{axis_at, date_at, date_in}

-- ---- dates up to the year 2100
year_least : (year : ℕ) → 365 ≤ days_in_year year
year_least year = go (is_leap_year year) where
  go : (b : Bool) → 365 ≤ cond b 366 365
  go true = omega arith
  go false = omega arith

years_least : (year more later : ℕ) → later ≡ year + more → days_before_year year + 365 * more ≤ days_before_year later
unfolding days_before_year
years_least year zero later e = let same : later ≡ year = omega (arith, e) in omega (arith, ap days_before_year same)
years_least year (suc more) zero e = absurd (omega (arith, e))
years_least year (suc more) (suc later) e = let rest = years_least year more later (omega (arith, e)) in omega (arith, rest, year_least later)

first_day : (year : ℕ) → days_before year 1 1 ≡ days_before_year year
unfolding days_before days_of_months
first_day year = omega arith

-- a date of the profile is well below the year 2200
date_below : (year month day : ℕ) → IsRealDay year month day → year ≤ 2100 → days_before year month day + 36_135 ≤ days_before 2200 12 31
date_below year month day real last =
    let before = before_later_year year month day 2101 real (omega (arith, last)) in
    omega (arith, before, first_day 2101, years_least 2101 99 2200 (omega arith), first_day 2200, in_year 2200 12 31)

number_below : (year month day : ℕ) → IsRealDay year month day → year ≤ 2100 → day_number year month day ≤ℤ pos 48_235
unfolding day_number
number_below year month day real last = omega (arith, ints, date_below year month day real last, number_2200)

-- the number of a date
pub record IsDay (day : ℤ) : Type 0 where
  pub from : neg_ℤ (pos 25_567) ≤ℤ day
  pub to : day ≤ℤ pos 48_235

pub date_day : (text : List ℕ) (day : ℤ) → date_of text ≡ Some day → IsDay day
date_day text day e =
    let is = date_told text day e in
    subst IsDay (sym is.value) (record { from = (real_range is.y is.m is.d is.real).0; to = number_below is.y is.m is.d is.real is.last })

last_day : (o : Option ℤ) (lines : List Line) → IfSome o IsDay → IfSome (last_or o (filter_map date_at lines)) IsDay
last_day o [] is = is
last_day o (line ∷ lines) is = go (date_at line) refl (last_day o lines is) (λ day here. last_day (Some day) lines here) where
  go : (d : Option ℤ) → date_at line ≡ d → IfSome (last_or o (filter_map date_at lines)) IsDay
      → ((day : ℤ) → IsDay day → IfSome (last_or (Some day) (filter_map date_at lines)) IsDay)
      → IfSome (last_or o (cons_option d (filter_map date_at lines))) IsDay
  go None e kept later = kept
  go (Some day) e kept later = later day (date_day (token_at line.tokens 1) day e)

pub day_in : (lines : List Line) → IfSome (date_in lines) IsDay
day_in lines = last_day None lines tt

-- ---- hours
pub record IsHourCount (ms : ℤ) : Type 0 where
  pub from : pos 0 ≤ℤ ms
  pub to : ms ≤ℤ pos (10 ^ 12)

field_below : (text : List ℕ) (n : ℕ) → IsField 1 5 text n → n < 10 ^ 5
field_below text n field = count_fits n (length text) 5 (let below = digits_after_below 0 text field.digits in let value = field.value in omega (arith, below, value)) field.at_most

clock_count : (text : List ℕ) (ms : ℤ) → IsClock text ms → IsHourCount ms
clock_count text ms clock =
    let h = field_below clock.hours clock.h clock.is_hours in
    let m = clock.minutes in
    let s = clock.seconds in
    subst IsHourCount (sym clock.value) (record { from = omega (arith, ints); to = omega (arith, ints, h, m, s) })

pub hours_count : (text : List ℕ) (ms : ℤ) → hours_of text ≡ Some ms → IsHourCount ms
unfolding hours_of
hours_count text ms e = go (clock_of text) refl e where
  go : (o : Option ℤ) → clock_of text ≡ o → option_or o (scaled_of hours_unit text) ≡ Some ms → IsHourCount ms
  go (Some clock) c e = let same : clock ≡ ms = cc in subst IsHourCount same (clock_count text clock (clock_told text clock c))
  go None c e = let stored : IsStored hours_unit text ms = IsStored-scaled_of e in record { from = stored.range.from; to = stored.range.to }

-- ---- times
pub time_in : (start : ℤ) (date : Option ℤ) (ms : ℤ) → IsMoment start → IfSome date IsDay → IsHourCount ms → IsSeriesTime (moved start date ms)
time_in start None ms moment day hours = record { within = omega (arith, ints, hours.from, hours.to) }
time_in start (Some d) ms moment day hours = record { within = omega (arith, ints, hours.from, hours.to, moment.from, moment.to, day.from, day.to) }

pub series_x_in : (start : ℤ) (own : List Line) (line : Line) (text : List ℕ) (x : ℤ) → IsMoment start → x_of (axis_at start own line) text ≡ Some x → IsSeriesTime x
series_x_in start own line text x moment e = go (hours_of text) refl e where
  go : (o : Option ℤ) → hours_of text ≡ o → option_map (moved start (date_in (own ++ line ∷ []))) o ≡ Some x → IsSeriesTime x
  go None h e = absurd (cc)
  go (Some ms) h e = let same : moved start (date_in (own ++ line ∷ [])) ms ≡ x = cc in
      subst IsSeriesTime same (time_in start (date_in (own ++ line ∷ [])) ms moment (day_in (own ++ line ∷ [])) (hours_count text ms h))

-- ---- raw values and factors
pub amount_in : (text : List ℕ) (value : ℤ) → amount_of text ≡ Some value → IsRaw value
unfolding unit_for
amount_in text value e = let stored : IsStored (unit_for Cms Raw) text value = IsStored-scaled_of e in within_both stored.range (within_minus (10 ^ 15)) (within_number (10 ^ 15))
