-- The ranges of the formulas of flow.
use Rattle.std.proofs.Common.{ℕ, ◌*◌, ◌^◌, ◌≤◌, ℤ, pos, ◌*ℤ◌, ◌≤ℤ◌, unsigned_abs, arith}
use Rattle.std.specs.Int.{int_max, int_min}
use Rattle.std.proofs.lemmas.Int.{ints, clamps}
use Rattle.fixed_num.specs.Ranges.{IsBetween, IsFall, IsWithin}
use Rattle.fixed_num.proofs.Bounds.{between_number, between_min, between_mul, between_quo_by, between_root2, between_root3, between_up, quo_of-abs, quo_of-from_zero, le_number}
use Rattle.xsect_tables.specs.NormalFlow.{celerity_of, slope_of, speed_of, discharge_of, uniform_of, normal_flow_of}
use Rattle.xsect_tables.specs.LookUps.{ratio_of, radius_of, area_of}
use Rattle.xsect_tables.specs.SectionTable.{SectionTable, IsTable, full_area}
use Rattle.xsect_tables.proofs.TableLemmas.{area_small, area_wet, perimeter_of-between}

-- the greater of a number and a least one
pub at_least : (k : ℕ) {m : ℕ} {x : ℤ} → IsBetween (pos 0) x (pos m) → k ≤ m → IsBetween (pos k) (int_max x (pos k)) (pos m)
at_least k h most = record { from = omega (arith, ints, clamps); to = omega (arith, ints, clamps, h.to, most) }

pub celerity-between : {area width : ℤ} → IsBetween (pos 0) area (pos (2 * 10 ^ 18)) → IsBetween (pos 0) width (pos (10 ^ 18)) → IsBetween (pos 0) (celerity_of area width) (pos (10 ^ 16))
unfolding celerity_of
celerity-between a w =
    let depth = between_quo_by 1 (between_mul a (between_number (pos 1_000_000))) (at_least 1 w (omega arith)).from tt in
    between_root2 (between_mul (between_number (pos 9_814_560)) depth) tt

pub ratio-between : {area perimeter : ℤ} → IsBetween (pos 0) area (pos (2 * 10 ^ 18)) → IsBetween (pos 0) perimeter (pos (10 ^ 18)) → area ≤ℤ (pos 30_000_000 *ℤ int_max perimeter (pos 1))
    → IsBetween (pos 0) (ratio_of area perimeter) (pos (3 * 10 ^ 13))
unfolding ratio_of
ratio-between {area = area} {perimeter = perimeter} a p wet =
    let least = at_least 1 p (omega arith) in
    let from : pos 0 ≤ℤ (area *ℤ pos 1_000_000) = omega (arith, ints, a.from) in
    let size : unsigned_abs (area *ℤ pos 1_000_000) ≤ 3 * 10 ^ 13 * unsigned_abs (int_max perimeter (pos 1)) = omega (arith, ints, clamps, a.from, wet, p.from) in
    let low = quo_of-from_zero (area *ℤ pos 1_000_000) (int_max perimeter (pos 1)) from in
    let high = quo_of-abs (area *ℤ pos 1_000_000) (int_max perimeter (pos 1)) (3 * 10 ^ 13) size in
    record { from = low; to = omega (arith, ints, high, low) }

pub least_drop : {drop : ℤ} → IsWithin (4 * 10 ^ 10) drop → IsBetween (pos 305) (int_max drop (pos 305)) (pos (4 * 10 ^ 10))
least_drop d = record { from = omega (arith, ints, clamps); to = omega (arith, ints, clamps, d.within) }

pub slope-between : {drop length : ℤ} → IsWithin (4 * 10 ^ 10) drop → IsBetween (pos 10_000) length (pos (10 ^ 11)) → IsBetween (pos 0) (slope_of drop length) (pos (2 * 10 ^ 9))
unfolding slope_of
slope-between d l =
    between_root2 (between_quo_by 10_000 (between_mul (least_drop d) (between_number (pos 1_000_000_000_000))) l.from tt) tt

pub speed-between : {radius slope6 n6 : ℤ} → IsBetween (pos 0) radius (pos (3 * 10 ^ 13)) → IsBetween (pos 0) slope6 (pos (2 * 10 ^ 9)) → IsBetween (pos 1_000) n6 (pos (10 ^ 6)) → IsBetween (pos 0) (speed_of radius slope6 n6) (pos (10 ^ 18))
unfolding speed_of
speed-between r s n =
    let power = between_root3 {n = 1_000_000_000_000} (between_mul (between_mul r r) (between_number (pos 1_000_000_000))) tt in
    let below = between_mul (between_number (pos 10)) n in
    between_up (between_quo_by 10_000 (between_mul power s) below.from tt) tt tt

pub discharge-between : {speed area : ℤ} → IsBetween (pos 0) speed (pos (10 ^ 18)) → IsBetween (pos 0) area (pos (2 * 10 ^ 18)) → IsBetween (pos 0) (discharge_of speed area) (pos (10 ^ 31))
unfolding discharge_of
discharge-between s a = between_up (between_quo_by {y = pos 1_000_000} 1_000_000 (between_mul s a) (le_number tt) tt) tt tt

-- ---- the same of a table
pub least_area : {table : SectionTable} {y : ℤ} → IsTable table → IsFall y → IsBetween (pos 0) (int_min (area_of table y) (full_area table)) (pos (2 * 10 ^ 18))
least_area t d = between_min (area_small t d) (between_up (t.areas.each 200 (omega arith)) tt tt)

pub radius_of-between : {table : SectionTable} {y : ℤ} → IsTable table → IsFall y → IsBetween (pos 0) (radius_of table y) (pos (3 * 10 ^ 13))
unfolding radius_of
radius_of-between {table} {y} t d = ratio-between (least_area t d) (perimeter_of-between y t) (area_wet y t)

pub uniform_of-between : {table : SectionTable} {n6 slope6 y : ℤ} → IsTable table → IsFall y → IsBetween (pos 1_000) n6 (pos (10 ^ 6)) → IsBetween (pos 0) slope6 (pos (2 * 10 ^ 9)) → IsBetween (pos 0) (uniform_of table y n6 slope6) (pos (10 ^ 31))
unfolding uniform_of
uniform_of-between t d n s = discharge-between (speed-between (radius_of-between t d) s n) (area_small t d)

pub normal_flow_of-between : {table : SectionTable} {n6 drop length y : ℤ} → IsTable table → IsFall y → IsBetween (pos 1_000) n6 (pos (10 ^ 6)) → IsWithin (4 * 10 ^ 10) drop → IsBetween (pos 10_000) length (pos (10 ^ 11)) → IsBetween (pos 0) (normal_flow_of table y n6 drop length) (pos (10 ^ 31))
unfolding normal_flow_of
normal_flow_of-between t d n f l = uniform_of-between t d n (slope-between f l)
