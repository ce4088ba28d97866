-- Rounding of a quotient to the nearest whole number.
use Rattle.std.specs.Prelude.{◌≡◌, ℕ, suc, ◌+◌, ◌*◌, ◌/◌, ◌≤◌, ℤ, pos, negsuc, ◌-ℤ◌, ◌*ℤ◌, neg_ℤ, unsigned_abs}

-- q is the whole number nearest to a / b, and of two that are equally near the one further from zero (this project's
-- profile)
pub record IsNearest (a b q : ℤ) : Type 0 where
  pub near : 2 * unsigned_abs (a -ℤ q *ℤ b) ≤ unsigned_abs b
  pub tie : 2 * unsigned_abs (a -ℤ q *ℤ b) ≡ unsigned_abs b → unsigned_abs a ≤ unsigned_abs (q *ℤ b)

-- n / k for natural numbers, a half upwards
unfoldable pub rounded : ℕ → ℕ → ℕ
rounded n k = (2 * n + k) / (2 * k)

-- a / b for a positive b, rounded to the nearest, ties away from zero (this project's profile)
unfoldable pub quo_of : ℤ → ℤ → ℤ
quo_of (pos n) b = pos (rounded n (unsigned_abs b))
quo_of (negsuc n) b = neg_ℤ (pos (rounded (suc n) (unsigned_abs b)))
