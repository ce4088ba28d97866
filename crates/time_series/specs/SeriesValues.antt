-- The value of a time series at a moment (User's Manual, section [TIMESERIES]; the rounding is this project's
-- profile).
use Rattle.std.specs.Prelude.{Bool, if◌then◌else◌, List, ℤ, pos}
use Rattle.rising_pairs.specs.Readings.{held_value, reading_of}

-- between two entries it is on the straight line from one to the other; outside it is 0, or that of the nearest entry
unfoldable pub series_value : (entries : List (ℤ × ℤ)) (moment : ℤ) (outside_zero : Bool) → ℤ
series_value entries moment outside_zero =
    if outside_zero then reading_of entries moment (pos 0) (pos 0) else held_value entries moment
