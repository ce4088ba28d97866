-- The ranges of the formulas of submergence.
use Rattle.std.proofs.Common.{◌≡◌, ℕ, ◌*◌, ◌^◌, ◌≤◌, ℤ, pos, negsuc, ◌-ℤ◌, ◌*ℤ◌, ◌≤ℤ◌, unsigned_abs, arith}
use Rattle.std.proofs.lemmas.Int.{ints}
use Rattle.fixed_num.specs.Ranges.{IsBetween, IsWithin}
use Rattle.fixed_num.specs.Rounding.{quo_of}
use Rattle.fixed_num.proofs.Bounds.{between_mul, between_number, between_quo_by, between_root2, between_up, le_number}
use Rattle.fixed_num.proofs.Bounds.{quo_of-abs, quo_of-from_zero}
use Rattle.orifice_weir.specs.Submergence.{cube_root6_of, head_ratio_of, root6_of, root9_of, three_halves_of}

pub head_ratio-between : {low high : ℤ} → IsBetween (pos 0) low high → IsBetween (pos 1) high (pos 1_000_000_000)
    → IsBetween (pos 0) (head_ratio_of low high) (pos 1_000_000)
unfolding head_ratio_of
head_ratio-between {low = pos l} {high = pos h} p q =
    let low = quo_of-from_zero (pos l *ℤ pos 1_000_000) (pos h) (omega (arith, ints)) in
    let high = quo_of-abs (pos l *ℤ pos 1_000_000) (pos h) 1_000_000 (omega (arith, ints, p.to)) in
    record { from = low; to = omega (arith, ints, low, high) }
head_ratio-between {low = negsuc l} {high} p q = absurd p.from.le
head_ratio-between {low = pos l} {high = negsuc h} p q = absurd q.from.le

pub root6-between : {x : ℤ} → IsBetween (pos 0) x (pos 1_000_000_000) → IsBetween (pos 0) (root6_of x) (pos 31_622_776)
unfolding root6_of
root6-between h = between_root2 (between_mul h (between_number (pos 1_000_000))) tt

pub root6-part : {x : ℤ} → IsBetween (pos 0) x (pos 1_000_000) → IsBetween (pos 0) (root6_of x) (pos 1_000_000)
unfolding root6_of
root6-part h = between_root2 (between_mul h (between_number (pos 1_000_000))) tt

pub three_halves-between : {ratio root : ℤ} → IsBetween (pos 0) ratio (pos 1_000_000)
    → IsBetween (pos 0) root (pos 1_000_000) → IsBetween (pos 0) (three_halves_of ratio root) (pos 1_000_000)
unfolding three_halves_of
three_halves-between h r =
    between_up (between_quo_by {y = pos 1_000_000} 1_000_000 (between_mul h r) (le_number tt) tt) tt tt

pub root9-between : {x : ℤ} → IsBetween (pos 0) x (pos 1_000_000_000)
    → IsBetween (pos 0) (root9_of x) (pos 1_000_000_000)
unfolding root9_of
root9-between h = between_root2 (between_mul h (between_number (pos 1_000_000_000))) tt

pub cube_root6-between : {x : ℤ} → IsBetween (pos 0) x (pos 1_000_000)
    → IsBetween (pos 0) (cube_root6_of x) (pos 1_000_000_000)
unfolding cube_root6_of
cube_root6-between h = between_root2 (between_mul (between_mul h h) h) tt

pub within_low : {m : ℕ} {x d : ℤ} → IsBetween (pos 0) x d → IsWithin m d → IsWithin m x
within_low {m} {x} {d} h w = record { within = omega (arith, ints, h.from, h.to, w.within) }

pub cube-from : {x : ℤ} → IsBetween (pos 0) x (pos 1_000_000) → pos 0 ≤ℤ (x *ℤ x *ℤ x)
cube-from h = (between_mul (between_mul h h) h).from

pub part-between : {flow part : ℤ} → IsBetween (pos 0) flow (pos (10 ^ 24)) → IsBetween (pos 0) part (pos 1_000_000_000)
    → IsBetween (pos 0) (quo_of (flow *ℤ part) (pos 1_000_000_000)) (pos (10 ^ 30))
part-between f p =
    between_up (between_quo_by {y = pos 1_000_000_000} 1_000_000_000 (between_mul f p) (le_number tt) tt) tt tt
