-- Newton's steps toward an integer root: a step never passes below the root, and goes down from any number above it.
use Rattle.std.proofs.Common.{◌≡◌, ℕ, zero, suc, ◌+◌, ◌-◌, ◌*◌, ◌/◌, ◌^◌, ◌<◌, ◌≤◌, ap, subst, sym, ◌∙◌, inl, inr, arith}
use Rattle.std.proofs.lemmas.Bool.{cases_lt}
use Rattle.std.proofs.lemmas.Nat.{div-add-mod', mod_below, div_below, pow-add, pow_pos, mul-le}
use Rattle.std.proofs.Math.Nat.{mul-le-mul_right, pow-le-pow_right}

-- ---- two numbers against their mean, and three
means2 : (x p t : ℕ) → x + p ≤ 2 * t → p * x ≤ t * t
means2 x p t h = elim (cases_lt t x) [
  | inl above ↦
      let d = x - t in
      let w = t - d in
      let q : p ≤ w = omega arith in
      let tw : t ≡ w + d = omega arith in
      let xw : x ≡ w + 2 * d = omega arith in
      omega (arith, mul-le-mul_right x q, ap (λ (n : ℕ). w * n) xw, ap (λ (n : ℕ). n * n) tw)
  | inr low ↦
      let d = t - x in
      let q : p ≤ x + 2 * d = omega arith in
      let tx : t ≡ x + d = omega arith in
      omega (arith, mul-le-mul_right x q, ap (λ (n : ℕ). n * n) tx)
]

means3 : (x p t : ℕ) → 2 * x + p ≤ 3 * t → p * (x * x) ≤ t * t * t
means3 x p t h = elim (cases_lt t x) [
  | inl above ↦
      let d = x - t in
      let w = t - 2 * d in
      let q : p ≤ w = omega arith in
      let tw : t ≡ w + 2 * d = omega arith in
      let xw : x ≡ w + 3 * d = omega arith in
      omega (arith, mul-le-mul_right (x * x) q, ap (λ (n : ℕ). w * (n * n)) xw, ap (λ (n : ℕ). n * n * n) tw)
  | inr low ↦
      let d = t - x in
      let q : p ≤ x + 3 * d = omega arith in
      let tx : t ≡ x + d = omega arith in
      omega (arith, mul-le-mul_right (x * x) q, ap (λ (n : ℕ). n * n * n) tx)
]

next_quotient : (a k : ℕ) → 0 < k → a < (a / k + 1) * k
next_quotient a k h = omega (arith, div-add-mod' a k, mod_below a k h)

-- ---- a step
step2_above : (a x : ℕ) → 0 < x → a < ((x + a / x) / 2 + 1) * ((x + a / x) / 2 + 1)
step2_above a x h =
    let t = (x + a / x) / 2 + 1 in
    let m : x + (a / x + 1) ≤ 2 * t = omega arith in
    omega (arith, next_quotient a x h, means2 x (a / x + 1) t m)

pub step2 : (a x : ℕ) → a < x * x → ((x + a / x) / 2 < x) × (a < ((x + a / x) / 2 + 1) * ((x + a / x) / 2 + 1))
step2 a zero h = absurd (omega arith)
step2 a (suc x) h = (omega (arith, div_below a (suc x) (suc x) (omega arith) h), step2_above a (suc x) (omega arith))

step3_above : (a x : ℕ) → 0 < x → a < ((2 * x + a / (x * x)) / 3 + 1) * ((2 * x + a / (x * x)) / 3 + 1) * ((2 * x + a / (x * x)) / 3 + 1)
step3_above a x h =
    let t = (2 * x + a / (x * x)) / 3 + 1 in
    let m : 2 * x + (a / (x * x) + 1) ≤ 3 * t = omega arith in
    omega (arith, next_quotient a (x * x) (mul-le 1 1 x x h h), means3 x (a / (x * x) + 1) t m)

pub step3 : (a x : ℕ) → a < x * x * x
    → ((2 * x + a / (x * x)) / 3 < x) × (a < ((2 * x + a / (x * x)) / 3 + 1) * ((2 * x + a / (x * x)) / 3 + 1) * ((2 * x + a / (x * x)) / 3 + 1))
step3 a zero h = absurd (omega arith)
step3 a (suc x) h = (omega (arith, div_below a (suc x * suc x) (suc x) (omega arith) (omega arith)), step3_above a (suc x) (omega arith))

-- ---- the first step, from a power of two
start2_above : (a s : ℕ) → a < ((2 ^ s + a / 2 ^ s) / 2 + 1) * ((2 ^ s + a / 2 ^ s) / 2 + 1)
start2_above a s = step2_above a (2 ^ s) (pow_pos s)

start3_above : (a s : ℕ) → a < ((2 * 2 ^ s + a / 2 ^ (2 * s)) / 3 + 1) * ((2 * 2 ^ s + a / 2 ^ (2 * s)) / 3 + 1) * ((2 * 2 ^ s + a / 2 ^ (2 * s)) / 3 + 1)
start3_above a s =
    let square : 2 ^ s * 2 ^ s ≡ 2 ^ (2 * s) = sym (pow-add 2 s s) ∙ ap (λ (n : ℕ). 2 ^ n) (omega arith) in
    subst (λ (k : ℕ). a < ((2 * 2 ^ s + a / k) / 3 + 1) * ((2 * 2 ^ s + a / k) / 3 + 1) * ((2 * 2 ^ s + a / k) / 3 + 1)) square (step3_above a (2 ^ s) (pow_pos s))

power_le : (i j : ℕ) → i ≤ j → 2 ^ i ≤ 2 ^ j
power_le i j h = pow-le-pow_right {n = 2} (omega arith) h

-- a number below 2 ^ (i + 1) divided by 2 ^ k
shifted : (a i j k : ℕ) → a < 2 * 2 ^ i → i + 1 ≤ j + k → a / 2 ^ k < 2 ^ j
shifted a i j k h l = div_below a (2 ^ k) (2 ^ j) (pow_pos k) (omega (arith, power_le (i + 1) (j + k) l, pow-add 2 j k, pow-add 2 i 1))

start2_small : (a i w : ℕ) → a < 2 * 2 ^ i → i < 2 * w → 2 ^ ((i + 1) / 2) + a / 2 ^ ((i + 1) / 2) < 2 * 2 ^ w
start2_small a i w h l = omega (arith, power_le ((i + 1) / 2) w (omega arith), shifted a i w ((i + 1) / 2) h (omega arith))

start3_small : (a i w : ℕ) → a < 2 * 2 ^ i → i + 2 < 3 * (w + 1) → 2 * 2 ^ ((i + 2) / 3) + a / 2 ^ (2 * ((i + 2) / 3)) < 4 * 2 ^ w
start3_small a i w h l =
    let s = (i + 2) / 3 in
    omega (arith, power_le s w (omega arith), shifted a i (s + 1) (2 * s) h (omega arith), pow-add 2 s 1)

-- p is the power of two as the code shifts it
pub start2 : (a i w p : ℕ) → p ≡ 2 ^ ((i + 1) / 2) → a < 2 * 2 ^ i → i < 2 * w
    → (p + a / 2 ^ ((i + 1) / 2) < 2 * 2 ^ w) × (a < ((p + a / 2 ^ ((i + 1) / 2)) / 2 + 1) * ((p + a / 2 ^ ((i + 1) / 2)) / 2 + 1))
start2 a i w p e h l =
    let s = (i + 1) / 2 in
    subst (λ (n : ℕ). (n + a / 2 ^ s < 2 * 2 ^ w) × (a < ((n + a / 2 ^ s) / 2 + 1) * ((n + a / 2 ^ s) / 2 + 1))) (sym e) (start2_small a i w h l, start2_above a s)

pub start3 : (a i w p : ℕ) → p ≡ 2 ^ ((i + 2) / 3) → a < 2 * 2 ^ i → i + 2 < 3 * (w + 1)
    → (2 * p + a / 2 ^ (2 * ((i + 2) / 3)) < 4 * 2 ^ w)
    × (a < ((2 * p + a / 2 ^ (2 * ((i + 2) / 3))) / 3 + 1) * ((2 * p + a / 2 ^ (2 * ((i + 2) / 3))) / 3 + 1) * ((2 * p + a / 2 ^ (2 * ((i + 2) / 3))) / 3 + 1))
start3 a i w p e h l =
    let s = (i + 2) / 3 in
    subst (λ (n : ℕ). (2 * n + a / 2 ^ (2 * s) < 4 * 2 ^ w) × (a < ((2 * n + a / 2 ^ (2 * s)) / 3 + 1) * ((2 * n + a / 2 ^ (2 * s)) / 3 + 1) * ((2 * n + a / 2 ^ (2 * s)) / 3 + 1))) (sym e) (start3_small a i w h l, start3_above a s)

pub exponent_below : (i k : ℕ) → 2 ^ i < 2 ^ k → i < k
exponent_below i k h = elim (cases_lt i k) [ inl less ↦ less | inr more ↦ absurd (omega (arith, power_le k i more)) ]
