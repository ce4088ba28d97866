-- The ranges of the curve number method.
use Rattle.std.proofs.Common.{◌≡◌, ℕ, zero, suc, ◌+◌, ◌*◌, ◌^◌, ◌<◌, ◌≤◌, ℤ, pos, negsuc, ◌+ℤ◌, ◌-ℤ◌, ◌*ℤ◌, ◌≤ℤ◌, ◌<ℤ◌, unsigned_abs, refl, ap, arith}
use Rattle.std.specs.Int.{int_min, int_max}
use Rattle.std.proofs.lemmas.Int.{ints, clamps}
use Rattle.std.proofs.Math.Nat.{mul-le-mul_left, mul-le-mul_right}
use Rattle.fixed_num.specs.Ranges.{IsBetween, IsDryingTime}
use Rattle.fixed_num.specs.Rounding.{quo_of, rounded}
use Rattle.fixed_num.proofs.Bounds.{between_mul, between_number, between_quo_by, between_up, le_number, quo_of-abs, quo_of-from_zero, quo_of-zero}
use Rattle.infiltration.specs.CurveNumber.{IsCurveNumber, IsRoom, greatest_room_of, soaked_of}
use Rattle.infiltration.proofs.QuotientLemmas.{quo_of-least, rounded-step}

pub greatest_between : (cn6 : ℤ) → IsCurveNumber cn6 → IsRoom (greatest_room_of cn6)
unfolding greatest_room_of
greatest_between (negsuc n) h = absurd h.from.le
greatest_between (pos n) h =
    let high = between_quo_by {y = pos n} 1_000_000 (between_number (pos 25_400_000_000_000_000)) h.from tt in
    let low = quo_of-least 25_400_000_000_000_000 n 254_000_000 (omega (arith, ints, h.from)) (omega (arith, ints, h.to)) in
    record { from = omega (arith, ints, low); to = omega (arith, ints, high.to) }

square_most : (p s : ℕ) → unsigned_abs (pos p *ℤ pos p) ≤ p * unsigned_abs (pos p +ℤ pos s)
square_most p s = omega (arith, ints, mul-le-mul_left {m = p} {n = p + s} p (omega arith))

pub soaked_between : (rain room : ℤ) → pos 0 ≤ℤ rain → pos 0 ≤ℤ room → IsBetween (pos 0) (soaked_of rain room) rain
unfolding soaked_of
soaked_between (negsuc p) room h k = absurd h.le
soaked_between (pos p) (negsuc s) h k = absurd k.le
soaked_between (pos p) (pos s) h k =
    let most = quo_of-abs (pos p *ℤ pos p) (pos p +ℤ pos s) p (square_most p s) in
    let low = quo_of-from_zero (pos p *ℤ pos p) (pos p +ℤ pos s) (omega (arith, ints)) in
    record { from = omega (arith, ints, most); to = omega (arith, ints, low) }

pub soaked_none : (room : ℤ) → soaked_of (pos 0) room ≡ pos 0
unfolding soaked_of
soaked_none room = omega (arith, ints, quo_of-zero (pos 0 +ℤ room))

-- more rain of an event is never taken to a lesser depth
more_size : (p d s : ℕ) → (p + d) * (p + d) * (p + s) ≤ (p * p + d * (p + s)) * (p + d + s)
more_size p d s = omega arith

soaked_grows : (p d s : ℕ) → soaked_of (pos p) (pos s) ≤ℤ soaked_of (pos (p + d)) (pos s)
unfolding soaked_of quo_of
soaked_grows zero d s =
    let none = soaked_none (pos s) in
    let low = soaked_between (pos (0 + d)) (pos s) (omega (arith, ints)) (omega (arith, ints)) in
    omega (arith, ints, none, low.from)
soaked_grows (suc p) d s =
    let step = rounded-step (suc p * suc p) (suc p + s) ((suc p + d) * (suc p + d)) (suc p + d + s) d (omega arith) (omega arith) (more_size (suc p) d s) in
    omega (arith, ints, step)

pub soaked_more : (rain more room : ℤ) → pos 0 ≤ℤ rain → pos 0 ≤ℤ more → pos 0 ≤ℤ room → soaked_of rain room ≤ℤ soaked_of (rain +ℤ more) room
soaked_more (pos p) (pos d) (pos s) h k l = soaked_grows p d s
soaked_more (negsuc p) more room h k l = absurd h.le
soaked_more (pos p) (negsuc d) room h k l = absurd k.le
soaked_more (pos p) (pos d) (negsuc s) h k l = absurd l.le
