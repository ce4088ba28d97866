-- How far from zero the value of a formula is at most, from how far its parts are. The argument `tt` of a law proves a test
-- on numerals, which computes.
use Rattle.std.proofs.Common.{ℕ, ◌+◌, ◌*◌, ◌/◌, ◌^◌, T, leb, ltb, leb→le, ltb→lt, ℤ, pos, ◌+ℤ◌, ◌-ℤ◌, ◌*ℤ◌, neg_ℤ, ◌≤ℤ◌, unsigned_abs, FitsSigned, arith}
use Rattle.std.specs.Int.{w32, w64, w128, int_min, int_max}
use borrow.Author.Differences.{neg_is}
use Rattle.std.proofs.lemmas.Int.{ints, clamps, unsigned_abs-mul, fits_signed_from_abs}
use Rattle.std.proofs.lemmas.Nat.{mul-le}
use Rattle.fixed_num.specs.Ranges.{IsWithin, IsBetween}
use Rattle.fixed_num.specs.Rounding.{quo_of}
use Rattle.fixed_num.proofs.RoundingLaws.{quo_of-no_larger, quo_of-by}

-- ---- numbers
pub within_number : (n : ℕ) → IsWithin n (pos n)
within_number n = record { within = omega (arith, ints) }

pub within_minus : (n : ℕ) → IsWithin n (neg_ℤ (pos n))
within_minus n = record { within = omega (arith, ints, neg_is (pos n)) }

pub within_up : {m n : ℕ} {a : ℤ} → IsWithin m a → T (leb m n) → IsWithin n a
within_up {m} {n} {a} p t = record { within = omega (arith, p.within, leb→le m n t) }

-- ---- sums, differences, products
pub within_add : {m n : ℕ} {a b : ℤ} → IsWithin m a → IsWithin n b → IsWithin (m + n) (a +ℤ b)
within_add {m} {n} {a} {b} p q = record { within = omega (arith, ints) }

pub within_sub : {m n : ℕ} {a b : ℤ} → IsWithin m a → IsWithin n b → IsWithin (m + n) (a -ℤ b)
within_sub {m} {n} {a} {b} p q = record { within = omega (arith, ints) }

pub within_mul : {m n : ℕ} {a b : ℤ} → IsWithin m a → IsWithin n b → IsWithin (m * n) (a *ℤ b)
within_mul {m} {n} {a} {b} p q = record { within = omega (arith, unsigned_abs-mul a b, mul-le (unsigned_abs a) (unsigned_abs b) m n p.within q.within) }

pub within_neg : {m : ℕ} {a : ℤ} → IsWithin m a → IsWithin m (neg_ℤ a)
within_neg {m} {a} p = record { within = omega (arith, ints) }

pub within_abs : {m : ℕ} {a : ℤ} → IsWithin m a → IsWithin m (pos (unsigned_abs a))
within_abs {m} {a} p = record { within = p.within }

-- ---- choices
pub within_min : {m : ℕ} {a b : ℤ} → IsWithin m a → IsWithin m b → IsWithin m (int_min a b)
within_min {m} {a} {b} p q = record { within = omega (arith, ints, clamps) }

pub within_max : {m : ℕ} {a b : ℤ} → IsWithin m a → IsWithin m b → IsWithin m (int_max a b)
within_max {m} {a} {b} p q = record { within = omega (arith, ints, clamps) }

-- what lies between two numbers is within the bound of both
pub within_both : {m : ℕ} {a x b : ℤ} → IsBetween a x b → IsWithin m a → IsWithin m b → IsWithin m x
within_both {m} {a} {x} {b} h p q = record { within = omega (arith, ints) }

pub within_between : {k m : ℕ} {x : ℤ} → IsBetween (pos k) x (pos m) → IsWithin m x
within_between {k} {m} {x} h = record { within = omega (arith, ints) }

pub between_within : {m : ℕ} {x : ℤ} → IsWithin m x → IsBetween (neg_ℤ (pos m)) x (pos m)
between_within {m} {x} p = record { from = omega (arith, ints, neg_is (pos m)); to = omega (arith, ints) }

-- ---- quotients
pub within_quo : {m : ℕ} {a : ℤ} (b : ℤ) → IsWithin m a → IsWithin m (quo_of a b)
within_quo {m} {a} b p = record { within = omega (arith, p.within, quo_of-no_larger a b) }

-- by a divisor of at least k
pub within_quo_by : {m : ℕ} {a b : ℤ} (k : ℕ) → IsWithin m a → pos k ≤ℤ b → T (ltb 0 k) → IsWithin ((2 * m + k) / (2 * k)) (quo_of a b)
within_quo_by {m} {a} {b} k p h t = record { within = quo_of-by a b m k p.within (ltb→lt 0 k t) (omega (arith, ints)) }

-- ---- a bound makes a number fit its type
pub fits128 : {m : ℕ} {a : ℤ} → IsWithin m a → T (ltb m (2 ^ 127)) → FitsSigned w128 a
fits128 {m} {a} p t = fits_signed_from_abs w128 a (omega (arith, p.within, ltb→lt m (2 ^ 127) t))

pub fits64 : {m : ℕ} {a : ℤ} → IsWithin m a → T (ltb m (2 ^ 63)) → FitsSigned w64 a
fits64 {m} {a} p t = fits_signed_from_abs w64 a (omega (arith, p.within, ltb→lt m (2 ^ 63) t))

pub fits32 : {m : ℕ} {a : ℤ} → IsWithin m a → T (ltb m (2 ^ 31)) → FitsSigned w32 a
fits32 {m} {a} p t = fits_signed_from_abs w32 a (omega (arith, p.within, ltb→lt m (2 ^ 31) t))
