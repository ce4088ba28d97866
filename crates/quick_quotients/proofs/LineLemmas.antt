-- Rounded quotients by a shift of half the divisor, and lines by the sizes of their differences.
use Rattle.std.proofs.Common.{◌≡◌, ℕ, ◌+◌, ◌*◌, ◌/◌, ◌<◌, ◌≤◌, ℤ, pos, neg_ℤ, ◌+ℤ◌, ◌-ℤ◌, ◌*ℤ◌, ◌≤ℤ◌, ◌<ℤ◌, unsigned_abs, ap, sym, refl, ◌∙◌, arith}
use Rattle.std.proofs.lemmas.Int.{ints, unsigned_abs-mul}
use Rattle.std.proofs.lemmas.Nat.{div-add-mod'}
use Rattle.std.proofs.Math.Nat.{mul-le-mul_left}
use Rattle.fixed_num.specs.Interpolation.{lerp_of}
use Rattle.fixed_num.specs.Rounding.{quo_of, rounded}
use Rattle.fixed_num.proofs.Between.{product_from_zero, product_to_zero}
use Rattle.fixed_num.proofs.RoundingLaws.{quo_of-zero}
use Rattle.fixed_num.proofs.RoundingLemmas.{rounded-is, quo_of_up, quo_of_down, rounded_most}

pub half_up : (n k q : ℕ) → 0 < k → q ≡ (n + k / 2) / k → q ≡ rounded n k
half_up n k q h e =
    let d = div-add-mod' (n + k / 2) k in
    let product = ap (λ (x : ℕ). x * k) e in
    rounded-is n k q (omega (arith, d, product, h)) (omega (arith, d, product, h))

pub share_most : (rise part run : ℕ) → part ≤ run → rounded (rise * part) run ≤ rise
share_most rise part run h = rounded_most (rise * part) run rise (mul-le-mul_left {m = part} {n = run} rise h)

pub rising : (y0 y1 : ℤ) (part run : ℕ) → y0 <ℤ y1 → y0 +ℤ pos (rounded (unsigned_abs (y1 -ℤ y0) * part) run) ≡ lerp_of (pos 0) y0 (pos run) y1 (pos part)
unfolding lerp_of
rising y0 y1 part run up =
    let sign = product_from_zero (y1 -ℤ y0) (pos part) (omega (arith, ints)) (omega (arith, ints)) in
    let from : pos part -ℤ pos 0 ≡ pos part = omega (arith, ints) in
    let whole : pos run -ℤ pos 0 ≡ pos run = omega (arith, ints) in
    rw (from, whole, quo_of_up ((y1 -ℤ y0) *ℤ pos part) (pos run) sign, unsigned_abs-mul (y1 -ℤ y0) (pos part)) refl

pub falling : (y0 y1 : ℤ) (part run : ℕ) → y1 ≤ℤ y0 → y0 -ℤ pos (rounded (unsigned_abs (y1 -ℤ y0) * part) run) ≡ lerp_of (pos 0) y0 (pos run) y1 (pos part)
unfolding lerp_of
falling y0 y1 part run down =
    let sign = product_to_zero (y1 -ℤ y0) (pos part) (omega (arith, ints)) (omega (arith, ints)) in
    let from : pos part -ℤ pos 0 ≡ pos part = omega (arith, ints) in
    let whole : pos run -ℤ pos 0 ≡ pos run = omega (arith, ints) in
    rw (from, whole, quo_of_down ((y1 -ℤ y0) *ℤ pos part) (pos run) sign, unsigned_abs-mul (y1 -ℤ y0) (pos part)) (omega (arith, ints))
