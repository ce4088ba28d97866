-- The value of a series: its two forms, and its range.
use Rattle.std.proofs.Common.{◌≡◌, ℕ, ◌-◌, ◌<◌, ◌≤◌, ◌^◌, Bool, true, false, List, length, ℤ, pos, refl, sym, subst}
use Rattle.std.proofs.Common.{arith}
use Rattle.std.proofs.lemmas.Int.{ints}
use Rattle.std.specs.List.{All}
use Rattle.fixed_num.specs.Ranges.{IsRaw, IsWithin}
use Rattle.net_types.specs.declared.tables.Curve.{Curve}
use Rattle.net_types.specs.declared.tables.Series.{Series}
use Rattle.net_types.specs.Ranges.{CurveInRange, SeriesInRange, EntryInRange, PointInRange, IsRising}
use Rattle.net_types.specs.Records.{pair_at}
use Rattle.rising_pairs.specs.Readings.{held_value, reading_of}
use Rattle.rising_pairs.proofs.ReadingLemmas.{reading_of-within}
use Rattle.time_series.specs.SeriesValues.{series_value}

pub zero_outside : (entries : List (ℤ × ℤ)) (moment : ℤ) (outside_zero : Bool) → outside_zero ≡ true
    → reading_of entries moment (pos 0) (pos 0) ≡ series_value entries moment outside_zero
unfolding series_value
zero_outside entries moment outside_zero e = rw e refl

pub held_outside : (entries : List (ℤ × ℤ)) (moment : ℤ) (outside_zero : Bool) → outside_zero ≡ false
    → held_value entries moment ≡ series_value entries moment outside_zero
unfolding series_value
held_outside entries moment outside_zero e = rw e refl

zero_within : IsWithin (10 ^ 15) (pos 0)
zero_within = record { within = omega (arith, ints) }

pub held_value-within : (pairs : List (ℤ × ℤ)) (key : ℤ) → 1 ≤ length pairs → IsRising pairs
    → All (λ (pair : ℤ × ℤ). IsWithin (10 ^ 15) pair.1) pairs
    → IsWithin (10 ^ 15) (held_value pairs key)
held_value-within pairs key some r each =
    reading_of-within pairs key _ _ some r each (each 0 (pos 0, pos 0) (omega arith))
    (each (length pairs - 1) (pos 0, pos 0) (omega arith))

pub series_value-within : {series : Series} → SeriesInRange series → (moment : ℤ) (outside_zero : Bool)
    → IsWithin (10 ^ 15) (series_value series.entries moment outside_zero)
unfolding series_value
series_value-within {series} s moment true =
    reading_of-within series.entries moment (pos 0) (pos 0) s.some s.rising (λ k d h. (s.entries_in k d h).value_in)
    zero_within zero_within
series_value-within {series} s moment false =
    held_value-within series.entries moment s.some s.rising (λ k d h. (s.entries_in k d h).value_in)

pub curve_value-within : {curve : Curve} → CurveInRange curve → (key : ℤ)
    → IsWithin (10 ^ 15) (held_value curve.points key)
curve_value-within {curve} s key = held_value-within curve.points key s.some s.rising
    (λ k d h. (s.points_in k d h).y_in)
