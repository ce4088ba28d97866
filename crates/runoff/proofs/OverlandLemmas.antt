-- The ranges of the flow over a plane.
use Rattle.std.proofs.Common.{◌≡◌, ℕ, zero, suc, ◌+◌, ◌*◌, ◌^◌, ◌<◌, ◌≤◌, ℤ, pos, negsuc, ◌+ℤ◌, ◌-ℤ◌, ◌*ℤ◌, ◌≤ℤ◌}
use Rattle.std.proofs.Common.{unsigned_abs, FitsSigned, to_z, of_z, subst, sym, ap, ◌∙◌, add-one, arith}
use Rattle.std.specs.Int.{int_max, int_min, w64}
use Rattle.std.proofs.lemmas.Int.{ints, clamps, to_z-of_z}
use Rattle.fixed_num.specs.Ranges.{IsBetween, IsLandArea, IsPart, IsRoughness, IsSmallDepth, IsWidth, IsWithin}
use Rattle.fixed_num.specs.Rounding.{quo_of}
use Rattle.fixed_num.specs.Sums.{sum_below}
use Rattle.fixed_num.proofs.Bounds.{between_mul, between_number, between_quo_by, between_root2, between_root3}
use Rattle.fixed_num.proofs.Bounds.{between_up, le_number, quo_of-from_zero}
use Rattle.runoff.specs.Overland.{IsCover, IsFilledDepth, IsPlane, breadth_of, depth_after, drain_rate_of, drained_of}
use Rattle.runoff.specs.Overland.{excess_of, outflow_of, sheet_of, slope_root_of, speed_of, substep_of, two_thirds_of}
use Rattle.runoff.specs.declared.overland.Cover.{Cover}
use Rattle.runoff.specs.declared.overland.Plane.{Plane}

pub slope_root-between : {slope6 : ℤ} → IsPart slope6 → IsBetween (pos 0) (slope_root_of slope6) (pos 1_000_000)
unfolding slope_root_of
slope_root-between h = between_root2 (between_mul h (between_number (pos 1_000_000))) tt

pub breadth-between : {width area : ℤ} → IsWidth width → IsLandArea area
    → IsBetween (pos 0) (breadth_of width area) (pos 10_000_000_000_000)
unfolding breadth_of
breadth-between w a =
    between_up (between_quo_by 1_000_000 (between_mul w (between_number (pos 1_000_000_000))) a.from tt) tt tt

pub capped : (x : ℤ) (m : ℕ) → pos 0 ≤ℤ x → IsBetween (pos 0) (int_min x (pos m)) (pos m)
capped x m h = record { from = omega (arith, ints, clamps); to = omega (arith, ints, clamps) }

pub two_thirds-between : {sheet : ℤ} → IsSmallDepth sheet → IsBetween (pos 0) (two_thirds_of sheet) (pos 4_700_000_000)
unfolding two_thirds_of
two_thirds-between h = between_root3 (between_mul (between_mul h h) (between_number (pos 1_000_000_000))) tt

pub speed-between : (n6 : ℤ) {slope_root sheet : ℤ} → IsBetween (pos 0) slope_root (pos 1_000_000) → IsSmallDepth sheet
    → IsBetween (pos 0) (speed_of slope_root n6 sheet) (pos 1_000_000_000_000)
unfolding speed_of
speed-between n6 {slope_root} {sheet} s h =
    let product = between_mul s (two_thirds-between h) in
    capped _ 1_000_000_000_000 (quo_of-from_zero (slope_root *ℤ two_thirds_of sheet) n6 product.from)

pub drain_rate-between : {breadth speed : ℤ} → IsBetween (pos 0) breadth (pos 10_000_000_000_000)
    → IsBetween (pos 0) speed (pos 1_000_000_000_000)
    → IsBetween (pos 0) (drain_rate_of breadth speed) (pos 100_000_000_000_000_000)
unfolding drain_rate_of
drain_rate-between {breadth} {speed} b s =
    let product = between_mul b s in
    capped _ 100_000_000_000_000_000 (quo_of-from_zero (breadth *ℤ speed) (pos 1_000_000_000) product.from)

excess-between : {depth storage : ℤ} → pos 0 ≤ℤ depth → pos 0 ≤ℤ storage
    → IsBetween (pos 0) (excess_of depth storage) depth
unfolding excess_of
excess-between h k = record { from = omega (arith, ints, clamps); to = omega (arith, ints, clamps) }

pub sheet-between : {excess : ℤ} → pos 0 ≤ℤ excess → IsSmallDepth (sheet_of excess)
unfolding sheet_of
sheet-between {excess} h = capped excess 10_000_000_000 h

lesser : (x y d : ℤ) → IsBetween (pos 0) x d → pos 0 ≤ℤ y → IsBetween (pos 0) (int_min x y) d
lesser x y d h k = record { from = omega (arith, ints, clamps, h.from); to = omega (arith, ints, clamps, h.to) }

pub drained-between : {rate ms sheet : ℤ} → IsBetween (pos 0) rate (pos 100_000_000_000_000_000)
    → IsBetween (pos 0) ms (pos 450_000) → IsSmallDepth sheet
    → IsBetween (pos 0) (drained_of rate ms sheet) (pos 1_000_000_000_000_000_000_000)
unfolding drained_of
drained-between r t h =
    between_up (between_quo_by {y = pos 1_000_000_000_000} 1_000_000_000_000
    (between_mul (between_mul r t) h) (le_number tt) tt) tt tt

-- no more runs off than there is
pub outflow-between : (plane : Plane) (cover : Cover) (ms depth : ℤ) → IsPlane plane → IsCover cover
    → IsBetween (pos 0) ms (pos 450_000) → pos 0 ≤ℤ depth
    → IsBetween (pos 0) (outflow_of plane cover ms depth) depth
unfolding outflow_of
outflow-between plane cover ms depth p c t d =
    let excess = excess-between {depth = depth} {storage = cover.storage} d c.storage.from in
    let sheet = sheet-between {excess = excess_of depth cover.storage} excess.from in
    let speed = speed-between cover.n6 {slope_root = plane.slope_root} p.slope_root sheet in
    let rate = drain_rate-between {breadth = plane.breadth} p.breadth speed in
    let drained = drained-between rate t sheet in
    lesser _ _ depth excess drained.from

-- where nothing is above the storage nothing runs off
pub none_above : (plane : Plane) (cover : Cover) (ms depth : ℤ) → IsPlane plane → IsCover cover
    → IsBetween (pos 0) ms (pos 450_000) → pos 0 ≤ℤ depth
    → excess_of depth cover.storage ≡ pos 0 → pos 0 ≡ outflow_of plane cover ms depth
unfolding outflow_of
none_above plane cover ms depth p c t d none =
    let excess = excess-between {depth = depth} {storage = cover.storage} d c.storage.from in
    let sheet = sheet-between {excess = excess_of depth cover.storage} excess.from in
    let speed = speed-between cover.n6 {slope_root = plane.slope_root} p.slope_root sheet in
    let rate = drain_rate-between {breadth = plane.breadth} p.breadth speed in
    let drained = drained-between rate t sheet in
    least _ _ none drained.from
  where
    least : (x y : ℤ) → x ≡ pos 0 → pos 0 ≤ℤ y → pos 0 ≡ int_min x y
    least x y e k = omega (arith, ints, clamps, e)

-- ---- a substep more
pub within_depth : {m : ℕ} {x d : ℤ} → IsBetween (pos 0) x d → IsWithin m d → IsWithin m x
within_depth {m} {x} {d} h w = record { within = omega (arith, ints, h.from, h.to, w.within) }

pub next_left : (plane : Plane) (cover : Cover) (ms depth : ℤ) {part left after : ℤ} (k : ℕ) → part ≡ substep_of ms
    → left ≡ depth_after plane cover ms depth k
    → after ≡ left -ℤ outflow_of plane cover part left → after ≡ depth_after plane cover ms depth (k + 1)
next_left plane cover ms depth k p l h = let e = rw (p, l) at h in rw add-one e

pub next_runoff : (plane : Plane) (cover : Cover) (ms depth : ℤ) {part left total after : ℤ} (k : ℕ)
    → part ≡ substep_of ms → left ≡ depth_after plane cover ms depth k
    → total ≡ sum_below (λ j. outflow_of plane cover (substep_of ms) (depth_after plane cover ms depth j)) k
    → after ≡ total +ℤ outflow_of plane cover part left
    → after ≡ sum_below (λ j. outflow_of plane cover (substep_of ms) (depth_after plane cover ms depth j)) (k + 1)
next_runoff plane cover ms depth k p l t h = let e = rw (p, l, t) at h in rw add-one e

pub at_end : (f : ℕ → ℤ) (x : ℤ) (j k : ℕ) → x ≡ f j → j ≡ k → x ≡ f k
at_end f x j k h e = subst (λ (i : ℕ). x ≡ f i) e h

-- a number whose bits are those of 0 is 0
pub zero_bits : (x : ℤ) → FitsSigned w64 x → of_z w64 x ≡ 0 → x ≡ pos 0
zero_bits x f h = sym (to_z-of_z w64 x f) ∙ ap (to_z w64) h
