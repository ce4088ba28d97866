-- The ranges of depths and values of a storage.
use Rattle.std.proofs.Common.{◌≡◌, ℕ, ◌*◌, ◌^◌, ◌≤◌, ℤ, pos, ◌+ℤ◌, ◌*ℤ◌, ◌≤ℤ◌, List, arith}
use Rattle.std.specs.List.{All}
use Rattle.std.proofs.lemmas.Int.{ints}
use Rattle.fixed_num.specs.Ranges.{IsBetween, IsDepth, IsRawAmount, IsWithin}
use Rattle.fixed_num.specs.Units.{IsUnit}
use Rattle.fixed_num.specs.declared.unit.Unit.{Unit as Scale}
use Rattle.fixed_num.specs.Rounding.{quo_of}
use Rattle.fixed_num.proofs.Bounds.{between_mul, between_number, between_quo_by, between_up, le_number}
use Rattle.net_types.specs.Ranges.{PointInRange}
use Rattle.storage_shapes.specs.ShapeArea.{user_depth_of}

pub within_nat : (m n : ℕ) → n ≤ m → IsWithin m (pos n)
within_nat m n h = record { within = omega (arith, ints, h) }

pub one_between : (n : ℕ) → n ≡ 1 → IsBetween (pos 0) (pos n) (pos 1)
one_between n e = record { from = omega (arith, ints); to = omega (arith, ints, e) }

pub user_depth-between : (unit : Scale) {depth : ℤ} → unit.den ≡ 1 → 100_000 ≤ unit.num → IsDepth depth
    → IsBetween (pos 0) (user_depth_of unit depth) (pos 10_000_000_000)
unfolding user_depth_of
user_depth-between unit e least d =
    let product = between_mul (between_mul d (one_between unit.den e)) (between_number (pos 1_000_000)) in
    between_up (between_quo_by {y = pos unit.num} 100_000 product (omega (arith, ints, least)) tt) tt tt

pub scaled-between : {a1 power : ℤ} → IsRawAmount a1 → IsBetween (pos 0) power (pos 1_000_000_000_000_000_000)
    → IsBetween (pos 0) (quo_of (a1 *ℤ power) (pos 1_000_000)) (pos (10 ^ 27))
scaled-between a p = between_up (between_quo_by {y = pos 1_000_000} 1_000_000 (between_mul a p) (le_number tt) tt) tt tt

pub values_in : (points : List (ℤ × ℤ)) → All PointInRange points
    → All (λ (point : ℤ × ℤ). IsWithin (10 ^ 15) point.1) points
values_in points all k d h = (all k d h).y_in
