-- The ranges of the speeds and the time of a wave along a conduit.
use Rattle.std.proofs.Common.{ℤ, pos, ◌*ℤ◌, ◌≤ℤ◌, unsigned_abs, arith}
use Rattle.std.specs.Int.{int_min}
use Rattle.std.proofs.lemmas.Int.{ints, clamps}
use Rattle.fixed_num.specs.Ranges.{IsBetween, IsConduitLength, IsTravelTime}
use Rattle.fixed_num.proofs.Bounds.{quo_of-from_zero}
use Rattle.conduit_flow.specs.declared.geometry.Middle.{Middle}
use Rattle.conduit_flow.specs.Momentum.{flow_speed_of}
use Rattle.conduit_flow.specs.TravelTime.{wave_speed_of, travel_time_of}

least : (m : ℤ) (x : ℤ) → pos 0 ≤ℤ m → pos 0 ≤ℤ x → IsBetween (pos 0) (int_min m x) m
least m x g h = record { from = omega (arith, ints, clamps); to = omega (arith, ints, clamps) }

pub flow_speed-between : (flow area : ℤ) → IsBetween (pos 0) (flow_speed_of flow area) (pos 15_240_000)
unfolding flow_speed_of
flow_speed-between flow area =
    let product : pos 0 ≤ℤ (pos (unsigned_abs flow) *ℤ pos 1_000_000) = omega (arith, ints) in
    least (pos 15_240_000) _ (omega (arith, ints)) (quo_of-from_zero (pos (unsigned_abs flow) *ℤ pos 1_000_000) area product)

pub travel_time-between : (flow : ℤ) (middle : Middle) {length : ℤ} → IsConduitLength length → IsTravelTime (travel_time_of flow middle length)
unfolding travel_time_of
travel_time-between flow middle {length = length} h =
    let product : pos 0 ≤ℤ (length *ℤ pos 1_000) = omega (arith, ints, h.from) in
    least (pos 3_600_000) _ (omega (arith, ints)) (quo_of-from_zero (length *ℤ pos 1_000) (wave_speed_of flow middle) product)
