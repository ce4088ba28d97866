-- An area at a depth is no more than a width along the wetted perimeter, where it is so at the grid heights around the depth.
use Rattle.std.proofs.Common.{◌≡◌, ℕ, ◌+◌, ◌*◌, ◌≤◌, ◌<◌, ℤ, pos, negsuc, ◌+ℤ◌, ◌-ℤ◌, ◌*ℤ◌, ◌≤ℤ◌, ◌<ℤ◌, refl, ap, ◌∙◌, inl, inr, arith}
use Rattle.std.specs.Int.{int_max}
use Rattle.std.proofs.lemmas.Bool.{cases_lt}
use Rattle.std.proofs.lemmas.Int.{ints, clamps}
use Rattle.std.proofs.lemmas.Nat.{mul-le}
use borrow.Author.Differences.{sum_is_lem}
use Rattle.fixed_num.specs.Interpolation.{lerp_of}
use Rattle.fixed_num.specs.Rounding.{quo_of}
use Rattle.fixed_num.proofs.RoundingLemmas.{IsNearest-quo_of}

-- ---- products over differences
times_plus : (a b : ℤ) (c : ℕ) → (a +ℤ b) *ℤ pos c ≡ a *ℤ pos c +ℤ b *ℤ pos c
times_plus a b c = omega (arith, ints, ap (λ (x : ℕ). x * c) (sum_is_lem a b))

times_minus : (a b : ℤ) (c : ℕ) → (a -ℤ b) *ℤ pos c ≡ a *ℤ pos c -ℤ b *ℤ pos c
times_minus a b c =
    let whole : (a -ℤ b) +ℤ b ≡ a = omega (arith, ints) in
    let e : ((a -ℤ b) +ℤ b) *ℤ pos c ≡ a *ℤ pos c = ap (λ (z : ℤ). z *ℤ pos c) whole in
    omega (arith, ints, times_plus (a -ℤ b) b c, e)

-- ---- twice a value on the straight line, at t of t + e parts, against the two values at its ends
record IsNear (a0 a1 a t e : ℕ) : Type 0 where
  high : 2 * (a * (t + e)) ≤ 2 * (a1 * t + a0 * e) + (t + e)
  low : 2 * (a1 * t + a0 * e) ≤ 2 * (a * (t + e)) + (t + e)

near : (a0 a1 a t e : ℕ) → 0 < t + e → pos a ≡ pos a0 +ℤ quo_of ((pos a1 -ℤ pos a0) *ℤ pos t) (pos (t + e)) → IsNear a0 a1 a t e
near a0 a1 a t e some is =
    let product = (pos a1 -ℤ pos a0) *ℤ pos t in
    let q = quo_of product (pos (t + e)) in
    let share : q ≡ pos a -ℤ pos a0 = omega (arith, ints, is) in
    let nearest = IsNearest-quo_of product (pos (t + e)) (omega (arith, ints, some)) in
    let rise = times_minus (pos a1) (pos a0) t in
    let run : q *ℤ pos (t + e) ≡ pos a *ℤ pos (t + e) -ℤ pos a0 *ℤ pos (t + e) = ap (λ (z : ℤ). z *ℤ pos (t + e)) share ∙ times_minus (pos a) (pos a0) (t + e) in
    record {
      high = omega (arith, ints, nearest.near, rise, run);
      low = omega (arith, ints, nearest.near, rise, run);
    }

-- ---- the bound
below_all : (a p t e : ℕ) → 0 < t + e → 2 * (a * (t + e)) ≤ 20_000_000 * (p * (t + e)) + 30_000_001 * (t + e) → a ≤ 10_000_000 * p + 20_000_000
below_all a p t e some h = elim (cases_lt (10_000_000 * p + 20_000_000) a) [
  | inl above ↦ absurd (omega (arith, h, some, mul-le (10_000_000 * p + 20_000_001) (t + e) a (t + e) (omega (arith, above)) (omega arith)))
  | inr most ↦ most
]

most_at : (a0 a1 a p0 p1 p t e : ℕ) → 0 < t + e → IsNear a0 a1 a t e → IsNear p0 p1 p t e → a0 ≤ 10_000_000 * (p0 + 1) → a1 ≤ 10_000_000 * (p1 + 1)
    → a ≤ 10_000_000 * p + 20_000_000
most_at a0 a1 a p0 p1 p t e some area wet h0 h1 =
    let first : a0 * e ≤ 10_000_000 * (p0 + 1) * e = mul-le a0 e (10_000_000 * (p0 + 1)) e h0 (omega arith) in
    let last : a1 * t ≤ 10_000_000 * (p1 + 1) * t = mul-le a1 t (10_000_000 * (p1 + 1)) t h1 (omega arith) in
    below_all a p t e some (omega (arith, area.high, wet.low, first, last))

no_more : (area wet : ℤ) (a p : ℕ) → area ≡ pos a → wet ≡ pos p → a ≤ 10_000_000 * p + 20_000_000 → area ≤ℤ (pos 30_000_000 *ℤ int_max wet (pos 1))
no_more area wet a p e f h = omega (arith, ints, clamps, e, f, h)

few : (area wet : ℤ) (a p : ℕ) → area ≡ pos a → wet ≡ pos p → area ≤ℤ (pos 10_000_000 *ℤ int_max wet (pos 1)) → a ≤ 10_000_000 * (p + 1)
few area wet a p e f h = omega (arith, ints, clamps, e, f, h)

near_of : (x0 y0 x1 y1 x y : ℤ) (n0 n1 n t e : ℕ) → 0 < t + e → y0 ≡ pos n0 → y1 ≡ pos n1 → y ≡ pos n → x -ℤ x0 ≡ pos t → x1 -ℤ x0 ≡ pos (t + e)
    → y ≡ y0 +ℤ quo_of ((y1 -ℤ y0) *ℤ (x -ℤ x0)) (x1 -ℤ x0) → IsNear n0 n1 n t e
near_of x0 y0 x1 y1 x y n0 n1 n t e some first last is part run value = near n0 n1 n t e some (cc (first, last, is, part, run, value))

pub lerp_wet : {x0 x1 a0 a1 p0 p1 x : ℤ} → x0 ≤ℤ x → x ≤ℤ x1 → x0 <ℤ x1 → pos 0 ≤ℤ a0 → pos 0 ≤ℤ a1 → pos 0 ≤ℤ p0 → pos 0 ≤ℤ p1
    → pos 0 ≤ℤ lerp_of x0 a0 x1 a1 x → pos 0 ≤ℤ lerp_of x0 p0 x1 p1 x
    → a0 ≤ℤ (pos 10_000_000 *ℤ int_max p0 (pos 1)) → a1 ≤ℤ (pos 10_000_000 *ℤ int_max p1 (pos 1))
    → lerp_of x0 a0 x1 a1 x ≤ℤ (pos 30_000_000 *ℤ int_max (lerp_of x0 p0 x1 p1 x) (pos 1))
unfolding lerp_of
lerp_wet {x0} {x1} {a0} {a1} {p0} {p1} {x} from to apart a0_in a1_in p0_in p1_in area_in wet_in first last =
    let a0_is = number a0 a0_in in
    let a1_is = number a1 a1_in in
    let p0_is = number p0 p0_in in
    let p1_is = number p1 p1_in in
    let part = number (x -ℤ x0) (omega (arith, ints, from)) in
    let rest = number (x1 -ℤ x) (omega (arith, ints, to)) in
    let run = together x0 x1 x part.0 rest.0 part.1 rest.1 in
    let some = above x0 x1 part.0 rest.0 run apart in
    let area = number _ area_in in
    let wet = number _ wet_in in
    let area_near = near_of x0 a0 x1 a1 x _ a0_is.0 a1_is.0 area.0 part.0 rest.0 some a0_is.1 a1_is.1 area.1 part.1 run refl in
    let wet_near = near_of x0 p0 x1 p1 x _ p0_is.0 p1_is.0 wet.0 part.0 rest.0 some p0_is.1 p1_is.1 wet.1 part.1 run refl in
    let h0 = few a0 p0 a0_is.0 p0_is.0 a0_is.1 p0_is.1 first in
    let h1 = few a1 p1 a1_is.0 p1_is.0 a1_is.1 p1_is.1 last in
    no_more _ _ area.0 wet.0 area.1 wet.1 (most_at a0_is.0 a1_is.0 area.0 p0_is.0 p1_is.0 wet.0 part.0 rest.0 some area_near wet_near h0 h1)
  where
    number : (z : ℤ) → pos 0 ≤ℤ z → (n : ℕ) × (z ≡ pos n)
    number (pos n) h = (n, refl)
    number (negsuc n) h = absurd h.le

    together : (x0 x1 x : ℤ) (t e : ℕ) → x -ℤ x0 ≡ pos t → x1 -ℤ x ≡ pos e → x1 -ℤ x0 ≡ pos (t + e)
    together x0 x1 x t e h k = omega (arith, ints, h, k)

    above : (x0 x1 : ℤ) (t e : ℕ) → x1 -ℤ x0 ≡ pos (t + e) → x0 <ℤ x1 → 0 < t + e
    above x0 x1 t e h k = omega (arith, ints, h, k)
