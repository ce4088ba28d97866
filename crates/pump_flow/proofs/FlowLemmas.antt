-- The ranges of the flow of a pump.
use Rattle.std.proofs.Common.{◌≡◌, ℕ, ◌*◌, ◌^◌, ◌<◌, ◌≤◌, ℤ, pos, ◌*ℤ◌, arith}
use Rattle.std.specs.Int.{int_max}
use Rattle.std.proofs.lemmas.Int.{ints, clamps}
use Rattle.fixed_num.specs.Ranges.{IsBetween, IsPart, IsRaw, IsWithin}
use Rattle.fixed_num.specs.Rounding.{quo_of}
use Rattle.fixed_num.specs.Units.{IsUnit}
use Rattle.fixed_num.specs.declared.unit.Unit.{Unit as Scale}
use Rattle.fixed_num.proofs.Bounds.{between_mul, between_quo_by, between_up, le_number, within_mul, within_number}
use Rattle.fixed_num.proofs.Bounds.{within_quo_by}
use Rattle.pump_flow.specs.PumpFlow.{curve_flow_of, set_flow_of}

pub within_nat : (m n : ℕ) → n ≤ m → IsWithin m (pos n)
within_nat m n h = record { within = omega (arith, ints, h) }

pub not_below : {m : ℕ} {x : ℤ} → IsWithin m x → IsBetween (pos 0) (int_max x (pos 0)) (pos m)
not_below {m} {x} h = record { from = omega (arith, ints, clamps); to = omega (arith, ints, clamps, h.within) }

pub scaled-within : (unit : Scale) {value : ℤ} → IsUnit unit → IsRaw value
    → IsWithin 100_000_000_000_000_000_000 (quo_of (value *ℤ pos unit.num) (pos unit.den *ℤ pos 1_000_000))
scaled-within unit u v =
    within_quo_by 1_000_000 (within_mul v (within_nat (10 ^ 11) unit.num u.num_at_most)) (omega (
      arith,
      ints,
      u.den_positive,
    )) tt

pub curve_flow-between : (unit : Scale) {value : ℤ} → IsUnit unit → IsRaw value
    → IsBetween (pos 0) (curve_flow_of unit value) (pos 100_000_000_000_000_000_000)
unfolding curve_flow_of
curve_flow-between unit u v = not_below (scaled-within unit u v)

pub set_flow-between : {flow setting : ℤ} → IsBetween (pos 0) flow (pos 100_000_000_000_000_000_000) → IsPart setting
    → IsBetween (pos 0) (set_flow_of flow setting) (pos 100_000_000_000_000_000_000)
unfolding set_flow_of
set_flow-between f s =
    between_up (between_quo_by {y = pos 1_000_000} 1_000_000 (between_mul f s) (le_number tt) tt) tt tt
