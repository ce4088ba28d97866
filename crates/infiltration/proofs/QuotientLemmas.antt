-- Rounded quotients: a least value, and two of them compared.
use Rattle.std.proofs.Common.{ℕ, suc, ◌+◌, ◌*◌, ◌<◌, ◌≤◌, ℤ, pos, negsuc, ◌≤ℤ◌, unsigned_abs, arith, inl, inr}
use Rattle.std.proofs.lemmas.Bool.{cases_lt}
use Rattle.std.proofs.lemmas.Int.{ints}
use Rattle.std.proofs.lemmas.Nat.{le-div}
use Rattle.std.proofs.Math.Nat.{mul-le-mul_left, mul-le-mul_right}
use Rattle.fixed_num.specs.Rounding.{quo_of, rounded}
use Rattle.fixed_num.proofs.RoundingLemmas.{rounded-near}

-- a quotient is at least m where m times the divisor is at most the dividend
pub quo_of-least : (n k m : ℕ) → 0 < k → m * k ≤ n → pos m ≤ℤ quo_of (pos n) (pos k)
unfolding quo_of rounded
quo_of-least n k m p h = let low = le-div m (2 * n + k) (2 * k) (omega arith) (omega arith) in omega (arith, ints, low)

-- n' / k' is at most n / k and d more: so are the rounded quotients
no_step : (q r n k m l d : ℕ) → 0 < l → 2 * n + k < 2 * (q * k) + 2 * k → 2 * (r * l) ≤ 2 * m + l → m * k ≤ (n + d * k) * l → q + d < r → ⊥
no_step q r n k m l d p near far h less =
    omega (arith, mul-le-mul_right {m = 2 * n + k + 1} {n = 2 * (q * k) + 2 * k} l (omega arith), mul-le-mul_right k far, mul-le-mul_right {m = q + d + 1} {n = r} (2 * k * l) (omega arith))

pub rounded-step : (n k m l d : ℕ) → 0 < k → 0 < l → m * k ≤ (n + d * k) * l → rounded m l ≤ rounded n k + d
rounded-step n k m l d p r h =
    let near = rounded-near n k p in
    let far = rounded-near m l r in
    elim (cases_lt (rounded n k + d) (rounded m l)) [
      | inl less ↦ absurd (no_step (rounded n k) (rounded m l) n k m l d r near.1 far.0 h less)
      | inr most ↦ most
    ]
