-- The ranges of strips, prisms and lines.
use Rattle.std.proofs.Common.{◌≡◌, ℕ, ◌+◌, ◌*◌, ◌^◌, ◌<◌, ◌≤◌, ℤ, pos, ◌+ℤ◌, ◌-ℤ◌, ◌*ℤ◌, ◌≤ℤ◌, ◌<ℤ◌, arith}
use Rattle.std.proofs.lemmas.Int.{ints}
use Rattle.fixed_num.specs.Ranges.{IsBetween, IsDepth, IsNodeArea, IsWithin}
use Rattle.fixed_num.proofs.Bounds.{between_add, between_mul, between_quo_by, between_up, le_number}
use Rattle.storage_shapes.specs.StoreTable.{middle_of, prism_of}

pub middle_of-between : {low high : ℤ} → IsDepth low → IsDepth high → IsBetween (pos 0) (middle_of low high) (pos 1_000_000_000)
unfolding middle_of
middle_of-between {low} {high} l h =
    let sum : IsBetween (pos 0) (low +ℤ high) (pos 2_000_000_000) = between_up (between_add l h) tt tt in
    between_up (between_quo_by {y = pos 2} 2 sum (le_number tt) tt) tt tt

pub prism_of-between : {area height : ℤ} → IsNodeArea area → IsBetween (pos 0) height (pos 50_000_000_000)
    → IsBetween (pos 0) (prism_of area height) (pos (8 * 10 ^ 20))
unfolding prism_of
prism_of-between a h =
    between_up (between_quo_by {y = pos 1_000} 1_000 (between_mul a h) (le_number tt) tt) tt tt

pub prism_of-low : {area height : ℤ} → IsNodeArea area → IsDepth height → IsBetween (pos 0) (prism_of area height) (pos (10 ^ 19))
unfolding prism_of
prism_of-low a h =
    between_up (between_quo_by {y = pos 1_000} 1_000 (between_mul a h) (le_number tt) tt) tt tt

-- that of a strip, which is at most a 200th part of 10^9 µm and a rounding high
pub prism_of-strip : {area height : ℤ} → IsNodeArea area → IsBetween (pos 0) height (pos 6_000_000) → IsBetween (pos 0) (prism_of area height) (pos (6 * 10 ^ 16))
unfolding prism_of
prism_of-strip a h =
    between_up (between_quo_by {y = pos 1_000} 1_000 (between_mul a h) (le_number tt) tt) tt tt

-- how far into a line a number lies
pub part-within : {x0 x1 x : ℤ} → IsDepth x0 → IsDepth x1 → IsBetween x0 x x1 → IsWithin (10 ^ 9) (x -ℤ x0)
part-within a b h = record { within = omega (arith, ints, a.from, b.to, h.from, h.to) }
