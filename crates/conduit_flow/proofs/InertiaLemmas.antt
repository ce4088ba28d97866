-- The terms of inertia: their ranges, and the quotient of which both sides are divided by four.
use Rattle.std.proofs.Common.{◌≡◌, ◌∙◌, true, ℕ, suc, ◌+◌, ◌-◌, ◌*◌, ◌/◌, ◌%◌, ◌^◌, ◌<◌, ℤ, pos, negsuc, ◌+ℤ◌, ◌-ℤ◌, ◌*ℤ◌, neg_ℤ, ◌≤ℤ◌, ◌<ℤ◌, unsigned_abs, int_div, ap, refl, sym, subst, arith}
use Rattle.std.proofs.Math.IntN.{zero-*ℤ}
use Rattle.std.proofs.lemmas.Bool.Decides.{Decides-and, Decides-int_eq}
use Rattle.std.proofs.Math.Nat.{mul-div-mul_right}
use Rattle.std.proofs.lemmas.Int.{ints, unsigned_abs-mul}
use borrow.Author.Differences.{neg_is}
use Rattle.fixed_num.specs.Ranges.{IsBetween, IsCoefficient, IsWithin, IsConduitLength, IsEven, IsStepLength}
use Rattle.fixed_num.specs.Rounding.{quo_of, rounded}
use Rattle.fixed_num.proofs.Bounds.{between_add, between_mul, between_number, between_quo_by, between_up, le_number, quo_of-neg, quo_of-zero, within_between, within_mul, within_number, within_quo_by, within_up}
use Rattle.conduit_flow.specs.Geometry.{IsFlowArea}
use Rattle.conduit_flow.specs.Momentum.{IsInertia, convective_of, end_speed_of, is_lossless, local_of, losses_of}
use Rattle.conduit_flow.specs.declared.conduit.ConduitData.{ConduitData}
use Rattle.conduit_flow.specs.declared.geometry.Ends.{Ends}
use Rattle.conduit_flow.proofs.RangeLemmas.{step-between}

-- ---- how far inertia counts
pub no_inertia : IsInertia (pos 0)
no_inertia = record { range = record { from = omega (arith, ints); to = omega (arith, ints) }; even = refl }

pub whole_inertia : IsInertia (pos 1_000_000)
whole_inertia = record { range = record { from = omega (arith, ints); to = omega (arith, ints) }; even = refl }

twice_even : (x : ℤ) → IsEven (pos 2 *ℤ x)
twice_even x = rw (unsigned_abs-mul (pos 2) x) (double (unsigned_abs x))
  where
    double : (n : ℕ) → (2 * n) % 2 ≡ 0
    double n = omega arith

pub part_inertia : {froude : ℤ} → pos 500_000 <ℤ froude → froude <ℤ pos 1_000_000 → IsInertia (pos 2 *ℤ (pos 1_000_000 -ℤ froude))
part_inertia {froude} l h = record {
  range = record { from = omega (arith, ints, h); to = omega (arith, ints, l) };
  even = twice_even (pos 1_000_000 -ℤ froude);
}

-- ---- inertia by the step's length, a multiple of four
half_twice : (n : ℕ) → n % 2 ≡ 0 → n ≡ 2 * (n / 2)
half_twice n e = omega (arith, e)

four_times : (a b : ℕ) → a % 2 ≡ 0 → b % 2 ≡ 0 → 4 * (a * b / 4) ≡ a * b
four_times a b e f =
    let halves : a * b ≡ (2 * (a / 2)) * (2 * (b / 2)) = ap (λ (x : ℕ). x * b) (half_twice a e) ∙ ap (λ (y : ℕ). 2 * (a / 2) * y) (half_twice b f) in
    omega (arith, halves)

pub weight_is : (inertia dt : ℤ) → IsInertia inertia → IsStepLength dt → pos 4 *ℤ int_div (inertia *ℤ dt) (pos 4) ≡ inertia *ℤ dt
weight_is (pos a) (pos b) i t = omega (arith, ints, four_times a b i.even t.even)
weight_is (negsuc a) dt i t = absurd i.range.from.le
weight_is (pos a) (negsuc b) i t = absurd t.least.le

pub product-between : {inertia dt : ℤ} → IsInertia inertia → IsStepLength dt → IsBetween (pos 0) (inertia *ℤ dt) (pos 3_600_000_000_000)
product-between i t = between_mul i.range (step-between t)

pub weight-between : {inertia dt weight : ℤ} → IsInertia inertia → IsStepLength dt → pos 4 *ℤ weight ≡ inertia *ℤ dt → IsBetween (pos 0) weight (pos 900_000_000_000)
weight-between {weight = weight} i t e =
    let p = product-between i t in
    record { from = omega (arith, ints, e, p.from); to = omega (arith, ints, e, p.to) }

-- ---- a quotient of which both sides are four times as large
rounded_quarter : (n k : ℕ) → rounded (n * 4) (k * 4) ≡ rounded n k
unfolding rounded
rounded_quarter n k =
    let above : 2 * (n * 4) + k * 4 ≡ (2 * n + k) * 4 = omega arith in
    let below : 2 * (k * 4) ≡ (2 * k) * 4 = omega arith in
    rw (above, below) (mul-div-mul_right (2 * n + k) (2 * k) (omega arith))

quarter_from_zero : (n k : ℕ) → quo_of (pos (n * 4)) (pos (k * 4)) ≡ quo_of (pos n) (pos k)
unfolding quo_of
quarter_from_zero n k = ap pos (rounded_quarter n k)

quarter : (x : ℤ) (k : ℕ) → quo_of (x *ℤ pos 4) (pos (k * 4)) ≡ quo_of x (pos k)
quarter (pos n) k = quarter_from_zero n k
quarter (negsuc n) k =
    let four : negsuc n *ℤ pos 4 ≡ neg_ℤ (pos (suc n * 4)) = omega (arith, ints, neg_is (pos (suc n * 4))) in
    ap (λ (z : ℤ). quo_of z (pos (k * 4))) four
    ∙ quo_of-neg (pos (suc n * 4)) (pos (k * 4))
    ∙ ap neg_ℤ (quarter_from_zero (suc n) k)
    ∙ sym (quo_of-neg (pos (suc n)) (pos k))

four_out : (m : ℕ) (x : ℤ) → (pos 4 *ℤ pos m) *ℤ x ≡ (pos m *ℤ x) *ℤ pos 4
four_out m (pos n) = omega (arith, ints)
four_out m (negsuc n) = omega (arith, ints)

pub convective_by_weight : (inertia velocity rise dt length weight : ℤ) → pos 0 ≤ℤ weight → pos 10_000 ≤ℤ length → pos 4 *ℤ weight ≡ inertia *ℤ dt
    → quo_of (weight *ℤ (velocity *ℤ velocity *ℤ rise)) (pos 250_000_000_000_000 *ℤ length) ≡ convective_of inertia velocity rise dt length
unfolding convective_of
convective_by_weight inertia velocity rise dt (pos l) (pos m) h k e =
    let x = velocity *ℤ velocity *ℤ rise in
    let above : (inertia *ℤ dt) *ℤ x ≡ (pos m *ℤ x) *ℤ pos 4 = ap (λ (z : ℤ). z *ℤ x) (sym e) ∙ four_out m x in
    let below : pos 1_000_000_000_000_000 *ℤ pos l ≡ pos (250_000_000_000_000 * l * 4) = omega (arith, ints) in
    let quarter_is = quarter (pos m *ℤ x) (250_000_000_000_000 * l) in
    sym (ap (λ (z : ℤ). quo_of z (pos 1_000_000_000_000_000 *ℤ pos l)) above ∙ ap (λ (z : ℤ). quo_of ((pos m *ℤ x) *ℤ pos 4) z) below ∙ quarter_is)
convective_by_weight inertia velocity rise dt (negsuc l) weight h k e = absurd k.le
convective_by_weight inertia velocity rise dt (pos l) (negsuc m) h k e = absurd h.le

-- ---- ranges
pub growth-within : {inertia velocity change : ℤ} → IsInertia inertia → IsWithin 15_240_000 velocity → IsWithin (2 * 10 ^ 12) change
    → IsWithin (10 ^ 26) (pos 2 *ℤ inertia *ℤ velocity *ℤ change)
growth-within i v c = within_up (within_mul (within_mul (within_mul (within_number 2) (within_between i.range)) v) c) tt

pub local-within : {inertia velocity change : ℤ} → IsInertia inertia → IsWithin 15_240_000 velocity → IsWithin (2 * 10 ^ 12) change → IsWithin (10 ^ 14) (local_of inertia velocity change)
unfolding local_of
local-within i v c = within_up (within_quo_by {b = pos 1_000_000_000_000} 1_000_000_000_000 (growth-within i v c) (le_number tt) tt) tt

-- the numerator of the convective term fits 127 bits
pub thrust-within : {weight velocity rise : ℤ} → IsBetween (pos 0) weight (pos 900_000_000_000) → IsWithin 15_240_000 velocity → IsWithin (5 * 10 ^ 11) rise
    → IsWithin (2 ^ 127 - 1) (weight *ℤ (velocity *ℤ velocity *ℤ rise))
thrust-within w v r = within_up (within_mul (within_between w) (within_mul (within_mul v v) r)) tt

pub convective-within : {weight velocity rise length : ℤ} → IsBetween (pos 0) weight (pos 900_000_000_000) → IsWithin 15_240_000 velocity → IsWithin (5 * 10 ^ 11) rise → IsConduitLength length
    → IsWithin (10 ^ 20) (quo_of (weight *ℤ (velocity *ℤ velocity *ℤ rise)) (pos 250_000_000_000_000 *ℤ length))
convective-within w v r l =
    let below = between_mul (between_number (pos 250_000_000_000_000)) l in
    within_up (within_quo_by 2_500_000_000_000_000_000 (within_mul (within_between w) (within_mul (within_mul v v) r)) below.from tt) tt

-- the rise from one area of flow to another
pub rise-within : {area1 area2 : ℤ} → IsFlowArea area1 → IsFlowArea area2 → IsWithin (5 * 10 ^ 11) (area2 -ℤ area1)
rise-within a b = record { within = omega (arith, ints, a.from, a.to, b.from, b.to) }

-- ---- losses
pub toll-between : {entry exit way speed1 speed2 speed dt : ℤ} → IsCoefficient entry → IsCoefficient exit → IsCoefficient way → IsBetween (pos 0) speed1 (pos 15_240_000)
    → IsBetween (pos 0) speed2 (pos 15_240_000) → IsBetween (pos 0) speed (pos 15_240_000) → IsStepLength dt
    → IsBetween (pos 0) ((entry *ℤ speed1 +ℤ exit *ℤ speed2 +ℤ way *ℤ speed) *ℤ dt) (pos (10 ^ 23))
toll-between k1 k2 k3 v1 v2 v3 t = between_up (between_mul (between_up {c = pos 0} {d = pos (5 * 10 ^ 15)} (between_add (between_add (between_mul k1 v1) (between_mul k2 v2)) (between_mul k3 v3)) tt tt) (step-between t)) tt tt

pub losses-between : {toll length : ℤ} → IsBetween (pos 0) toll (pos (10 ^ 23)) → IsConduitLength length → IsBetween (pos 0) (quo_of toll (pos 2 *ℤ length)) (pos (10 ^ 19))
losses-between t l = let below = between_mul (between_number (pos 2)) l in between_up (between_quo_by 20_000 t below.from tt) tt tt

-- ---- terms that are nothing
pub no_local : {inertia : ℤ} (velocity change : ℤ) → inertia ≡ pos 0 → pos 0 ≡ local_of inertia velocity change
unfolding local_of
no_local {inertia} velocity change e =
    let none : pos 2 *ℤ inertia *ℤ velocity *ℤ change ≡ pos 0 =
    ap (λ (z : ℤ). pos 2 *ℤ z *ℤ velocity *ℤ change) e ∙ ap (λ (z : ℤ). z *ℤ change) (zero-*ℤ velocity) ∙ zero-*ℤ change in
    sym (ap (λ (z : ℤ). quo_of z (pos 1_000_000_000_000)) none ∙ quo_of-zero (pos 1_000_000_000_000))

pub no_convective : {inertia : ℤ} (velocity rise dt length : ℤ) → inertia ≡ pos 0 → pos 0 ≡ convective_of inertia velocity rise dt length
unfolding convective_of
no_convective {inertia} velocity rise dt length e =
    let push = velocity *ℤ velocity *ℤ rise in
    let none : (inertia *ℤ dt) *ℤ push ≡ pos 0 =
    ap (λ (z : ℤ). (z *ℤ dt) *ℤ push) e ∙ ap (λ (z : ℤ). z *ℤ push) (zero-*ℤ dt) ∙ zero-*ℤ push in
    sym (ap (λ (z : ℤ). quo_of z (pos 1_000_000_000_000_000 *ℤ length)) none ∙ quo_of-zero (pos 1_000_000_000_000_000 *ℤ length))

lost : (conduit : ConduitData) → is_lossless conduit ≡ true → (conduit.entry6 ≡ pos 0) × ((conduit.exit6 ≡ pos 0) × (conduit.avg6 ≡ pos 0))
lost conduit h =
    (Decides-and _ _ (Decides-int_eq conduit.entry6 (pos 0)) (Decides-and _ _ (Decides-int_eq conduit.exit6 (pos 0)) (Decides-int_eq conduit.avg6 (pos 0)))).0 h

no_toll : {entry exit way : ℤ} (speed1 speed2 speed dt : ℤ) → entry ≡ pos 0 → exit ≡ pos 0 → way ≡ pos 0
    → (entry *ℤ speed1 +ℤ exit *ℤ speed2 +ℤ way *ℤ speed) *ℤ dt ≡ pos 0
no_toll {entry} {exit} {way} speed1 speed2 speed dt e f g =
    let one : entry *ℤ speed1 ≡ pos 0 = ap (λ (z : ℤ). z *ℤ speed1) e ∙ zero-*ℤ speed1 in
    let two : exit *ℤ speed2 ≡ pos 0 = ap (λ (z : ℤ). z *ℤ speed2) f ∙ zero-*ℤ speed2 in
    let three : way *ℤ speed ≡ pos 0 = ap (λ (z : ℤ). z *ℤ speed) g ∙ zero-*ℤ speed in
    let none : entry *ℤ speed1 +ℤ exit *ℤ speed2 +ℤ way *ℤ speed ≡ pos 0 = omega (arith, ints, one, two, three) in
    ap (λ (z : ℤ). z *ℤ dt) none ∙ zero-*ℤ dt

pub no_losses : (conduit : ConduitData) (ends : Ends) (velocity last dt : ℤ) → is_lossless conduit ≡ true → pos 0 ≡ losses_of conduit ends velocity last dt
unfolding losses_of
no_losses conduit ends velocity last dt h =
    let k = lost conduit h in
    let none = no_toll (end_speed_of last ends.area1) (end_speed_of last ends.area2) (pos (unsigned_abs velocity)) dt k.0 k.1.0 k.1.1 in
    sym (ap (λ (z : ℤ). quo_of z (pos 2 *ℤ conduit.length)) none ∙ quo_of-zero (pos 2 *ℤ conduit.length))
