-- Infiltration by the modified Horton method (Reference Manual volume I, chapter 4; the drying and the rounding are
-- this project's profile). Rates are nm/h, depths nm, times ms, and the decay is in millionths of 1/h.
use Rattle.std.specs.Prelude.{◌≡◌, ◌^◌, if◌then◌else◌, int_lt, ℤ, pos, ◌+ℤ◌, ◌-ℤ◌, ◌*ℤ◌, ◌<ℤ◌, ◌≤ℤ◌}
use Rattle.std.specs.Int.{int_min, int_max}
use Rattle.fixed_num.specs.Ranges.{IsBetween, IsCoefficient, IsDryingTime, IsRate, IsSmallDepth, cut_of}
use Rattle.fixed_num.specs.Rounding.{quo_of}
use Rattle.infiltration.specs.Depths.{depth_of}
use Rattle.infiltration.specs.declared.horton.HortonCurve.{HortonCurve}
use Rattle.infiltration.specs.declared.states.HortonState.{HortonState}

-- the rate that the soil takes: the more was taken above what the least rate takes, the nearer it is to the least rate
unfoldable pub rate_of : HortonCurve → (above : ℤ) → ℤ
rate_of curve above = cut_of (curve.max -ℤ quo_of (curve.decay6 *ℤ above) (pos 1_000_000)) curve.min curve.max

-- what the soil takes at most in a step where `most` is what its rate takes: what the least rate takes and what is left
-- of the volume, of which 0 is no limit
unfoldable pub within_volume_of : HortonCurve → (above most ms : ℤ) → ℤ
within_volume_of curve above most ms =
    if int_lt (pos 0) curve.volume then int_min most (depth_of curve.min ms +ℤ curve.volume -ℤ above) else most

-- what the soil takes of the water that is there
unfoldable pub wet_taken_of : HortonCurve → (above available ms : ℤ) → ℤ
wet_taken_of curve above available ms =
    within_volume_of curve above (int_min available (depth_of (rate_of curve above) ms)) ms

-- what was taken above what the least rate takes, after a step with water
unfoldable pub wet_above_of : HortonCurve → (above taken ms : ℤ) → ℤ
wet_above_of curve above taken ms = above +ℤ int_max (taken -ℤ depth_of curve.min ms) (pos 0)

-- the same after a step without water, in which the soil dries
unfoldable pub dry_above_of : HortonCurve → (above ms : ℤ) → ℤ
dry_above_of curve above ms = above -ℤ int_min above (quo_of (pos 4 *ℤ above *ℤ ms) curve.dry)

-- what the soil takes in a step, and the state after it
abbrev pub horton_taken_of : HortonCurve → HortonState → (available ms : ℤ) → ℤ
horton_taken_of curve state available ms =
    if int_lt (pos 0) available then wet_taken_of curve state.above available ms else pos 0

abbrev pub horton_after : HortonCurve → HortonState → (available ms : ℤ) → HortonState
horton_after curve state available ms = record {
  above =
      if int_lt (pos 0) available then wet_above_of curve state.above (wet_taken_of curve state.above available ms) ms
      else dry_above_of curve state.above ms;
}

-- at the start nothing was taken
abbrev pub horton_start : HortonState
horton_start = record { above = pos 0 }

-- a state of a hotstart brought into the volume
unfoldable pub horton_opening : HortonCurve → HortonState → HortonState
horton_opening curve state =
    record { above = if int_lt (pos 0) curve.volume then int_min state.above curve.volume else state.above }

-- the numbers of the method lie in their ranges, and the least rate is at most the greatest
pub record IsHortonCurve (curve : HortonCurve) : Type 0 where
  pub max : IsRate curve.max
  pub min : IsRate curve.min
  pub decay : IsCoefficient curve.decay6
  pub drying : IsDryingTime curve.dry
  pub volume : IsSmallDepth curve.volume
  pub ordered : curve.min ≤ℤ curve.max

-- a state of numbers up to `most`, within the volume
pub record IsHortonState (most : ℤ) (curve : HortonCurve) (state : HortonState) : Type 0 where
  pub above : IsBetween (pos 0) state.above most
  pub held : pos 0 <ℤ curve.volume → state.above ≤ℤ curve.volume
