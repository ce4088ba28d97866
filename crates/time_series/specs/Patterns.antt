-- The factor of a time pattern at a point of the calendar (User's Manual, section [PATTERNS]).
use Rattle.std.specs.Prelude.{ℕ, ◌-◌, ◌/◌, ◌==◌, Bool, false, true, ◌||◌, if◌then◌else◌, List, slice_index_or, ℤ}
use Rattle.std.specs.Prelude.{pos, unsigned_abs}
use Rattle.calendar_steps.specs.declared.point.CalendarPoint.{CalendarPoint}
use Rattle.net_types.specs.declared.tables.Pattern.{Pattern}
use Rattle.net_types.specs.declared.tables.PatternKind.{PatternKind}
use Rattle.net_types.specs.declared.tables.PatternKind.TheVariants.{Monthly, Daily, Hourly, Weekend}

-- the factor of a place, in millionths; one that is missing is 1
abbrev pub factor_at : List ℤ → (place : ℕ) → ℤ
factor_at factors6 place = slice_index_or factors6 place (pos 1_000_000)

-- Saturday or Sunday
abbrev pub is_weekend : CalendarPoint → Bool
is_weekend point = (point.weekday == 1) || (point.weekday == 7)

-- the hour of the day, from 0
abbrev pub hour_of : CalendarPoint → ℕ
hour_of point = unsigned_abs point.ms_of_day / 3_600_000

-- a pattern of weekends counts as 1 on other days
abbrev pub weekend_factor : List ℤ → CalendarPoint → ℤ
weekend_factor factors6 point = if is_weekend point then factor_at factors6 (hour_of point) else pos 1_000_000

-- factors go by the month, by the day of the week from Sunday, or by the hour
abbrev pub kind_factor : PatternKind → List ℤ → CalendarPoint → ℤ
kind_factor Monthly factors6 point = factor_at factors6 (point.month - 1)
kind_factor Daily factors6 point = factor_at factors6 (point.weekday - 1)
kind_factor Hourly factors6 point = factor_at factors6 (hour_of point)
kind_factor Weekend factors6 point = weekend_factor factors6 point

abbrev pub pattern_factor_of : Pattern → CalendarPoint → ℤ
pattern_factor_of pattern point = kind_factor pattern.kind pattern.factors6 point

abbrev pub is_hourly : PatternKind → Bool
is_hourly Monthly = false
is_hourly Daily = false
is_hourly Hourly = true
is_hourly Weekend = false

abbrev pub is_of_weekends : PatternKind → Bool
is_of_weekends Monthly = false
is_of_weekends Daily = false
is_of_weekends Hourly = false
is_of_weekends Weekend = true
