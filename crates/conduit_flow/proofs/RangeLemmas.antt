-- The ranges of a conduit's formulas.
use Rattle.std.proofs.Common.{◌≡◌, ℕ, zero, suc, ◌+◌, ◌*◌, ◌^◌, ◌<◌, ◌≤◌, ℤ, pos, negsuc, ◌+ℤ◌, ◌*ℤ◌, ◌≤ℤ◌, neg_ℤ, unsigned_abs, arith}
use Rattle.std.specs.Int.{int_min}
use Rattle.std.proofs.lemmas.Int.{ints, clamps}
use Rattle.fixed_num.specs.Ranges.{IsBetween, IsFall, IsWaterDepth, IsWithin, IsStepLength}
use Rattle.fixed_num.specs.declared.constants.TheConstants.{GRAVITY}
use Rattle.fixed_num.specs.Roots.{root3_of}
use Rattle.fixed_num.specs.Rounding.{quo_of}
use Rattle.fixed_num.proofs.Bounds.{between_number, between_abs, between_add, between_mul, between_quo_by, between_root3, between_up, within_add, within_between, within_cut, within_minus, within_mul, within_number, within_quo_by, within_up, le_number}
use Rattle.std.proofs.lemmas.Int.{unsigned_abs-mul}
use Rattle.std.proofs.Math.Nat.{mul-div-le, mul-le-mul_left}
use Rattle.std.specs.Prelude.{◌/◌}
use Rattle.fixed_num.proofs.RootLemmas.{root3_at}
use Rattle.xsect_tables.specs.LookUps.{area_of}
use Rattle.xsect_tables.specs.SectionTable.{SectionTable}
use Rattle.xsect_tables.proofs.TableLemmas.{area_of-between}
use Rattle.conduit_flow.specs.Conduits.{IsConduitTable}
use Rattle.conduit_flow.specs.Geometry.{IsFlowArea, prism_of, end_area_of}
use Rattle.conduit_flow.specs.Momentum.{velocity_of, pressure_of, radius_power_of, friction_of, slowed_of}

-- ---- depths and areas
pub mean-between : {a b : ℤ} → IsWaterDepth a → IsWaterDepth b → IsWaterDepth (quo_of (a +ℤ b) (pos 2))
mean-between {a} {b} p q =
    let both : IsBetween (pos 0) (a +ℤ b) (pos (8 * 10 ^ 10)) = between_up (between_add p q) tt tt in
    between_up (between_quo_by {y = pos 2} 2 both (le_number tt) tt) tt tt

pub fall_of_depth : {y : ℤ} → IsWaterDepth y → IsFall y
fall_of_depth h = within_between h

pub flow_area-between : {table : SectionTable} {y : ℤ} → IsConduitTable table → IsWaterDepth y → IsFlowArea (area_of table y)
flow_area-between t h =
    let area = area_of-between t.rows t.areas (fall_of_depth h) in
    record { from = area.from; to = omega (arith, ints, area.to, t.full.to) }

pub prism-between : {area length barrels : ℤ} → IsBetween (pos 0) area (pos (5 * 10 ^ 11)) → IsBetween (pos 10_000) length (pos (10 ^ 11)) → IsBetween (pos 1) barrels (pos 100) → IsBetween (pos 0) (prism_of area length barrels) (pos (10 ^ 22))
unfolding prism_of
prism-between a l b = between_up (between_mul b (between_quo_by {y = pos 1_000} 1_000 (between_mul a l) (le_number tt) tt)) tt tt

-- the water surface of half a barrel
pub half-between : {width middle length : ℤ} → IsBetween (pos 0) width (pos (10 ^ 18)) → IsBetween (pos 0) middle (pos (10 ^ 18)) → IsBetween (pos 10_000) length (pos (10 ^ 11)) → IsBetween (pos 0) (quo_of ((width +ℤ middle) *ℤ length) (pos 4_000_000)) (pos (10 ^ 23))
half-between {width = width} {middle = middle} w m l =
    let both : IsBetween (pos 0) (width +ℤ middle) (pos (2 * 10 ^ 18)) = between_up (between_add w m) tt tt in
    between_up (between_quo_by {y = pos 4_000_000} 4_000_000 (between_mul both l) (le_number tt) tt) tt tt

pub end_area-between : {width middle length barrels : ℤ} → IsBetween (pos 0) width (pos (10 ^ 18)) → IsBetween (pos 0) middle (pos (10 ^ 18)) → IsBetween (pos 10_000) length (pos (10 ^ 11)) → IsBetween (pos 1) barrels (pos 100) → IsBetween (pos 0) (end_area_of width middle length barrels) (pos (5 * 10 ^ 12))
unfolding end_area_of
end_area-between {width = width} {middle = middle} {length = length} {barrels = barrels} w m l b =
    let all = between_mul b (half-between w m l) in
    least (barrels *ℤ quo_of ((width +ℤ middle) *ℤ length) (pos 4_000_000)) all.from
  where
    least : (x : ℤ) → pos 0 ≤ℤ x → IsBetween (pos 0) (int_min (pos 5_000_000_000_000) x) (pos (5 * 10 ^ 12))
    least x h = record { from = omega (arith, ints, clamps); to = omega (arith, ints, clamps) }

pub velocity-within : (flow area : ℤ) → IsWithin 15_240_000 (velocity_of flow area)
unfolding velocity_of
velocity-within flow area = within_cut (quo_of (flow *ℤ pos 1_000_000) area) (le_number tt) (within_minus 15_240_000) (within_number 15_240_000)

pub step-between : {dt : ℤ} → IsStepLength dt → IsBetween (pos 0) dt (pos 3_600_000)
step-between t = record { from = t.least; to = t.most }

pub drive-within : {area fall dt : ℤ} → IsBetween (pos 1) area (pos (5 * 10 ^ 11)) → IsWithin (4 * 10 ^ 10) fall → IsStepLength dt → IsWithin (10 ^ 36) (GRAVITY *ℤ area *ℤ fall *ℤ dt)
drive-within a f t = within_up (within_mul (within_mul (within_mul (within_number 9_814_560) (within_between a)) f) (within_between (step-between t))) tt

pub pressure-within : {area fall dt length : ℤ} → IsBetween (pos 1) area (pos (5 * 10 ^ 11)) → IsWithin (4 * 10 ^ 10) fall → IsStepLength dt → IsBetween (pos 10_000) length (pos (10 ^ 11)) → IsWithin (10 ^ 23) (pressure_of area fall dt length)
unfolding pressure_of
pressure-within a f t l =
    let below = between_mul (between_number (pos 1_000_000_000)) l in
    within_up (within_quo_by 10_000_000_000_000 (drive-within a f t) below.from tt) tt

-- the cube root of a positive number is positive
pub root3-positive : (a : ℤ) → pos 1 ≤ℤ a → pos 1 ≤ℤ root3_of a
root3-positive (negsuc a) h = absurd (omega (arith, ints))
root3-positive (pos a) h = let r = root3_at a in positive r.0 r.1.0 r.1.2
  where
    positive : (r : ℕ) → root3_of (pos a) ≡ pos r → a < (r + 1) * (r + 1) * (r + 1) → pos 1 ≤ℤ root3_of (pos a)
    positive zero e l = absurd (omega (arith, ints))
    positive (suc r) e l = omega (arith, ints, e)

pub root-between : {radius : ℤ} → IsBetween (pos 1) radius (pos (3 * 10 ^ 13)) → IsBetween (pos 1) (root3_of (radius *ℤ pos 1_000_000_000)) (pos (10 ^ 8))
root-between {radius = radius} r =
    let cube = between_mul r (between_number (pos 1_000_000_000)) in
    let root : IsBetween (pos 0) (root3_of (radius *ℤ pos 1_000_000_000)) (pos (10 ^ 8)) = between_root3 cube tt in
    let some : pos 1 ≤ℤ (radius *ℤ pos 1_000_000_000) = omega (arith, ints, cube.from) in
    record { from = root3-positive (radius *ℤ pos 1_000_000_000) some; to = root.to }

pub radius_power-between : {radius : ℤ} → IsBetween (pos 1) radius (pos (3 * 10 ^ 13)) → IsBetween (pos 1) (radius_power_of radius) (pos (10 ^ 22))
unfolding radius_power_of
radius_power-between r = between_up (between_mul r (root-between r)) tt tt

pub drag-between : {n6 velocity dt : ℤ} → IsBetween (pos 1_000) n6 (pos (10 ^ 6)) → IsWithin 15_240_000 velocity → IsStepLength dt → IsBetween (pos 0) (GRAVITY *ℤ (n6 *ℤ n6) *ℤ pos (unsigned_abs velocity) *ℤ dt) (pos (10 ^ 33))
drag-between n v t = between_up (between_mul (between_mul (between_mul (between_number (GRAVITY)) (between_mul n n)) (between_abs v)) (step-between t)) tt tt

pub friction-between : {n6 velocity dt radius : ℤ} → IsBetween (pos 1_000) n6 (pos (10 ^ 6)) → IsWithin 15_240_000 velocity → IsStepLength dt → IsBetween (pos 1) radius (pos (3 * 10 ^ 13)) → IsBetween (pos 0) (friction_of n6 velocity dt radius) (pos (10 ^ 26))
unfolding friction_of
friction-between n v t r =
    let below = between_mul (between_number (pos 10_000_000)) (radius_power-between r) in
    between_up (between_quo_by 10_000_000 (drag-between n v t) below.from tt) tt tt

pub slowed-within : {driven friction losses : ℤ} → IsWithin (2 * 10 ^ 23) driven → IsBetween (pos 0) friction (pos (10 ^ 26)) → IsBetween (pos 0) losses (pos (10 ^ 19))
    → IsWithin (10 ^ 24) (slowed_of driven friction losses)
unfolding slowed_of
slowed-within {friction = friction} {losses = losses} d f l =
    let divisor : pos 1_000_000_000 ≤ℤ (pos 1_000_000_000 +ℤ friction +ℤ losses) = omega (arith, ints, f.from, l.from) in
    within_up (within_quo_by 1_000_000_000 (within_mul d (within_number 1_000_000_000)) divisor tt) tt

-- ---- the greatest flow
-- what is no more than a barrel's part makes no more than the whole over all barrels
pub whole-between : {barrels x : ℤ} → IsBetween (pos 1) barrels (pos 100) → IsBetween (pos 0) x (pos (1_000_000_000_000 / unsigned_abs barrels)) → IsBetween (pos 0) (barrels *ℤ x) (pos (10 ^ 12))
whole-between {barrels = pos b} {x = pos x} p h =
    let fewer : x ≤ 1_000_000_000_000 / b = omega (arith, ints, h.to) in
    record { from = omega (arith, ints); to = omega (arith, ints, mul-le-mul_left b fewer, mul-div-le 1_000_000_000_000 b) }
whole-between {barrels = negsuc b} {x} p h = absurd p.from.le
whole-between {barrels = pos b} {x = negsuc x} p h = absurd h.from.le

-- a flow within the greatest one, over all barrels
pub whole-within : {barrels most x : ℤ} → IsBetween (pos 1) barrels (pos 100) → IsBetween (pos 0) (barrels *ℤ most) (pos (10 ^ 12)) → IsBetween (neg_ℤ most) x most → IsWithin (10 ^ 12) (barrels *ℤ x)
whole-within {barrels = pos b} {most = pos m} {x = x} p h k =
    let size : unsigned_abs x ≤ m = omega (arith, ints, k.from, k.to) in
    record { within = omega (arith, ints, unsigned_abs-mul (pos b) x, mul-le-mul_left b size, h.to) }
whole-within {barrels = negsuc b} {most} {x} p h k = absurd p.from.le
whole-within {barrels = pos b} {most = negsuc m} {x = x} p h k = absurd (omega (arith, ints, k.from, k.to))
