-- Rates of gages: their ranges.
use Rattle.std.proofs.Common.{ℕ, ◌*◌, ◌≤◌, ◌^◌, ℤ, pos, ◌*ℤ◌, arith}
use Rattle.std.proofs.lemmas.Int.{ints}
use Rattle.fixed_num.specs.Ranges.{IsBetween, IsRaw, IsWithin}
use Rattle.fixed_num.specs.Rounding.{quo_of}
use Rattle.fixed_num.proofs.Bounds.{within_mul, within_number, within_quo_by, within_up}

pub volume_within : {volume : ℤ} → IsRaw volume → IsWithin (10 ^ 15 * 3_600_000) (volume *ℤ pos 3_600_000)
volume_within {volume} v = within_mul v (within_number 3_600_000)

pub hourly_within : {volume interval : ℤ} → IsRaw volume → IsBetween (pos 60_000) interval (pos 86_400_000)
    → IsWithin (6 * 10 ^ 16) (quo_of (volume *ℤ pos 3_600_000) interval)
hourly_within {volume} {interval} v i = within_up (within_quo_by {b = interval} 60_000 (volume_within v) i.from tt) tt

pub number_within : {n m : ℕ} → n ≤ m → IsWithin m (pos n)
number_within h = record { within = omega (arith, ints, h) }

pub value_within : {value6 : ℤ} {n : ℕ} → IsWithin (6 * 10 ^ 16) value6 → n ≤ 10 ^ 11
    → IsWithin (6 * 10 ^ 27) (value6 *ℤ pos n)
value_within {value6} {n} v h = let p = within_mul v (within_number n) in record { within = omega (arith, p.within, h) }

pub divisor_within : {d : ℕ} → d ≤ 10 ^ 8 → IsWithin (10 ^ 14) (pos d *ℤ pos 1_000_000)
divisor_within {d} h = record { within = omega (arith, ints, h) }
