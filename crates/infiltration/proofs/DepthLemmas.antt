-- How deep a rate gets over a step.
use Rattle.std.proofs.Common.{ℕ, ◌*◌, ◌^◌, ◌≤◌, ℤ, pos, ◌*ℤ◌, ◌≤ℤ◌, unsigned_abs, arith}
use Rattle.std.proofs.lemmas.Int.{ints, unsigned_abs-mul}
use Rattle.std.proofs.Math.Nat.{mul-le-mul_right}
use Rattle.fixed_num.specs.Ranges.{IsBetween, IsRate}
use Rattle.fixed_num.proofs.Bounds.{between_mul, between_quo_by, between_up, le_number, quo_of-abs}
use Rattle.infiltration.specs.Depths.{IsRunoffStep, depth_of}

pub depth_between : {rate ms : ℤ} → IsRate rate → IsRunoffStep ms → IsBetween (pos 0) (depth_of rate ms) (pos (10 ^ 10))
unfolding depth_of
depth_between r t = between_up (between_quo_by {y = pos 3_600_000} 3_600_000 (between_mul r t) (le_number tt) tt) tt tt

depth_size : (r t : ℕ) → r ≤ 10 ^ 10 → r * t ≤ 2_778 * t * 3_600_000
depth_size r t h = omega (arith, mul-le-mul_right t h)

pub depth_slow : {rate ms : ℤ} → IsRate rate → IsRunoffStep ms → depth_of rate ms ≤ℤ (pos 2_778 *ℤ ms)
unfolding depth_of
depth_slow {rate} {ms} r t =
    let size = depth_size (unsigned_abs rate) (unsigned_abs ms) (omega (arith, ints, r.from, r.to)) in
    let q = quo_of-abs (rate *ℤ ms) (pos 3_600_000) (2_778 * unsigned_abs ms) (omega (arith, unsigned_abs-mul rate ms, size)) in
    omega (arith, ints, q, t.from)
