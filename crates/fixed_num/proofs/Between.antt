-- In which range the value of a formula lies, from the ranges of its parts. The argument `tt` of a law proves a test on
-- numerals, which computes.
use Rattle.std.proofs.Common.{◌≡◌, ℕ, zero, suc, ◌+◌, ◌*◌, ◌/◌, ◌≤◌, T, ltb, ltb→lt, ℤ, pos, negsuc, ◌+ℤ◌, ◌-ℤ◌, ◌*ℤ◌, neg_ℤ, ◌≤ℤ◌, ◌<ℤ◌, unsigned_abs, arith}
use Rattle.std.specs.Prelude.{int_le, int_lt}
use Rattle.std.specs.Int.{int_min, int_max}
use borrow.Author.Differences.{neg_is}
use Rattle.std.proofs.lemmas.Int.{ints, clamps, unsigned_abs-mul}
use Rattle.std.proofs.lemmas.Nat.{mul-le}
use Rattle.std.proofs.Math.Nat.{mul-le-mul_left}
use Rattle.fixed_num.specs.Interpolation.{lerp_of}
use Rattle.fixed_num.specs.Ranges.{IsWithin, IsBetween, cut_of}
use Rattle.fixed_num.specs.Rounding.{quo_of}
use Rattle.fixed_num.proofs.RoundingLaws.{quo_of-abs, quo_of-by, quo_of-from_zero, quo_of-to_zero, quo_of-mono}

-- ---- numbers
pub le_number : {a b : ℤ} → T (int_le a b) → a ≤ℤ b
le_number t = record { le = t }

pub lt_number : {a b : ℤ} → T (int_lt a b) → a <ℤ b
lt_number t = record { lt = t }

pub between_number : (a : ℤ) → IsBetween a a a
between_number a = record { from = omega (arith, ints); to = omega (arith, ints) }

pub between_up : {a b c d x : ℤ} → IsBetween a x b → T (int_le c a) → T (int_le b d) → IsBetween c x d
between_up {a} {b} {c} {d} {x} h s t =
    let low : c ≤ℤ a = le_number s in
    let high : b ≤ℤ d = le_number t in
    record { from = omega (arith, ints); to = omega (arith, ints) }

-- ---- sums, differences, products
pub between_add : {a b c d x y : ℤ} → IsBetween a x b → IsBetween c y d → IsBetween (a +ℤ c) (x +ℤ y) (b +ℤ d)
between_add {a} {b} {c} {d} {x} {y} p q = record { from = omega (arith, ints); to = omega (arith, ints) }

pub between_sub : {a b c d x y : ℤ} → IsBetween a x b → IsBetween c y d → IsBetween (a -ℤ d) (x -ℤ y) (b -ℤ c)
between_sub {a} {b} {c} {d} {x} {y} p q = record { from = omega (arith, ints); to = omega (arith, ints) }

pub between_neg : {a b x : ℤ} → IsBetween a x b → IsBetween (neg_ℤ b) (neg_ℤ x) (neg_ℤ a)
between_neg {a} {b} {x} p = record { from = omega (arith, ints); to = omega (arith, ints) }

pub between_mul : {j k m n : ℕ} {x y : ℤ} → IsBetween (pos j) x (pos m) → IsBetween (pos k) y (pos n) → IsBetween (pos (j * k)) (x *ℤ y) (pos (m * n))
between_mul {j} {k} {m} {n} {x = pos x} {y = pos y} p q = record {
  from = omega (arith, ints, mul-le j k x y (omega (arith, ints)) (omega (arith, ints)));
  to = omega (arith, ints, mul-le x y m n (omega (arith, ints)) (omega (arith, ints)));
}
between_mul {j} {k} {m} {n} {x = negsuc x} {y} p q = absurd p.from.le
between_mul {j} {k} {m} {n} {x = pos x} {y = negsuc y} p q = absurd q.from.le

pub between_abs : {m : ℕ} {x : ℤ} → IsWithin m x → IsBetween (pos 0) (pos (unsigned_abs x)) (pos m)
between_abs {m} {x} p = record { from = omega (arith, ints); to = omega (arith, ints) }

-- ---- choices
pub between_min : {a b x y : ℤ} → IsBetween a x b → IsBetween a y b → IsBetween a (int_min x y) b
between_min {a} {b} {x} {y} p q = record { from = omega (arith, ints, clamps); to = omega (arith, ints, clamps) }

pub between_max : {a b x y : ℤ} → IsBetween a x b → IsBetween a y b → IsBetween a (int_max x y) b
between_max {a} {b} {x} {y} p q = record { from = omega (arith, ints, clamps); to = omega (arith, ints, clamps) }

pub between_cut : {a b : ℤ} (v : ℤ) → a ≤ℤ b → IsBetween a (cut_of v a b) b
unfolding cut_of
between_cut {a} {b} v h = record { from = omega (arith, ints, clamps); to = omega (arith, ints, clamps) }

pub within_cut : {m : ℕ} {a b : ℤ} (v : ℤ) → a ≤ℤ b → IsWithin m a → IsWithin m b → IsWithin m (cut_of v a b)
within_cut {m} {a} {b} v h p q = let cut = between_cut {a = a} {b = b} v h in record { within = omega (arith, ints) }

pub cut_of-same : (v a b : ℤ) → IsBetween a v b → cut_of v a b ≡ v
unfolding cut_of
cut_of-same v a b h = omega (arith, ints, clamps)

pub cut_of-least : (v a b : ℤ) → v ≤ℤ a → a ≤ℤ b → cut_of v a b ≡ a
unfolding cut_of
cut_of-least v a b h l = omega (arith, ints, clamps)

pub cut_of-most : (v a b : ℤ) → b ≤ℤ v → a ≤ℤ b → cut_of v a b ≡ b
unfolding cut_of
cut_of-most v a b h l = omega (arith, ints, clamps)

-- ---- quotients
pub between_quo : {a b x : ℤ} (k : ℤ) → IsBetween a x b → IsBetween (quo_of a k) (quo_of x k) (quo_of b k)
between_quo {a} {b} {x} k p = record { from = quo_of-mono a x k p.from; to = quo_of-mono x b k p.to }

-- by a divisor of at least k
pub between_quo_by : {j m : ℕ} {x y : ℤ} (k : ℕ) → IsBetween (pos j) x (pos m) → pos k ≤ℤ y → T (ltb 0 k) → IsBetween (pos 0) (quo_of x y) (pos ((2 * m + k) / (2 * k)))
between_quo_by {j} {m} {x} {y} k p h t =
    let low = quo_of-from_zero x y (omega (arith, ints)) in
    let high = quo_of-by x y m k (omega (arith, ints)) (ltb→lt 0 k t) (omega (arith, ints)) in
    record { from = low; to = omega (arith, ints) }

-- ---- interpolation
pub product_from_zero : (a b : ℤ) → pos 0 ≤ℤ a → pos 0 ≤ℤ b → pos 0 ≤ℤ (a *ℤ b)
product_from_zero (pos a) (pos b) h k = omega (arith, ints)
product_from_zero (negsuc a) b h k = absurd h.le
product_from_zero (pos a) (negsuc b) h k = absurd k.le

pub product_to_zero : (a b : ℤ) → a ≤ℤ pos 0 → pos 0 ≤ℤ b → (a *ℤ b) ≤ℤ pos 0
product_to_zero (pos zero) (pos b) h k = omega (arith, ints)
product_to_zero (pos (suc a)) (pos b) h k = absurd (omega (arith, ints))
product_to_zero (negsuc a) (pos b) h k = omega (arith, ints, neg_is (pos (suc a * b)))
product_to_zero a (negsuc b) h k = absurd k.le

pub share_between : (rise part run : ℤ) → pos 0 ≤ℤ part → part ≤ℤ run → IsBetween (int_min (pos 0) rise) (quo_of (rise *ℤ part) run) (int_max (pos 0) rise)
share_between rise (negsuc p) run h l = absurd h.le
share_between rise (pos p) (negsuc k) h l = absurd l.le
share_between (pos n) (pos p) (pos k) h l =
    let low = quo_of-from_zero (pos n *ℤ pos p) (pos k) (omega (arith, ints)) in
    let high = quo_of-abs (pos n *ℤ pos p) (pos k) n (mul-le-mul_left n (omega (arith, ints))) in
    record { from = omega (arith, ints, clamps); to = omega (arith, ints, clamps) }
share_between (negsuc n) (pos p) (pos k) h l =
    let high = quo_of-to_zero (negsuc n *ℤ pos p) (pos k) (omega (arith, ints, neg_is (pos (suc n * p)))) in
    let size : unsigned_abs (negsuc n *ℤ pos p) ≤ suc n * k = omega (arith, unsigned_abs-mul (negsuc n) (pos p), mul-le-mul_left {m = p} {n = k} (suc n) (omega (arith, ints))) in
    let low = quo_of-abs (negsuc n *ℤ pos p) (pos k) (suc n) size in
    record { from = omega (arith, ints, clamps); to = omega (arith, ints, clamps) }

pub between_lerp : {a b x0 y0 x1 y1 x : ℤ} → IsBetween a y0 b → IsBetween a y1 b → IsBetween x0 x x1 → IsBetween a (lerp_of x0 y0 x1 y1 x) b
unfolding lerp_of
between_lerp {a} {b} {x0} {y0} {x1} {y1} {x} p q h =
    let share = share_between (y1 -ℤ y0) (x -ℤ x0) (x1 -ℤ x0) (omega (arith, ints)) (omega (arith, ints)) in
    record { from = omega (arith, ints, clamps); to = omega (arith, ints, clamps) }
