-- Integer square and cube roots.
use Rattle.std.specs.Prelude.{ℕ, zero, suc, ◌*◌, Bool, cond, nat_le, ℤ, pos, negsuc, ◌+ℤ◌, ◌*ℤ◌, ◌≤ℤ◌, ◌<ℤ◌}

-- r is the greatest whole number whose square is at most a (this project's profile)
pub record IsRoot2 (a r : ℤ) : Type 0 where
  pub from_zero : pos 0 ≤ℤ r
  pub at_most : (r *ℤ r) ≤ℤ a
  pub below_next : a <ℤ ((r +ℤ pos 1) *ℤ (r +ℤ pos 1))

-- r is the greatest whole number whose cube is at most a (this project's profile)
pub record IsRoot3 (a r : ℤ) : Type 0 where
  pub from_zero : pos 0 ≤ℤ r
  pub at_most : (r *ℤ r *ℤ r) ≤ℤ a
  pub below_next : a <ℤ ((r +ℤ pos 1) *ℤ (r +ℤ pos 1) *ℤ (r +ℤ pos 1))

-- the greatest number up to n that passes a test, or 0
abbrev pub greatest : (ℕ → Bool) → ℕ → ℕ
greatest passes zero = 0
greatest passes (suc n) = cond (passes (suc n)) (suc n) (greatest passes n)

-- the greatest number whose square is at most a, and 0 for a negative a
unfoldable pub root2_of : ℤ → ℤ
root2_of (pos a) = pos (greatest (λ r. nat_le (r * r) a) a)
root2_of (negsuc a) = pos 0

-- the greatest number whose cube is at most a, and 0 for a negative a
unfoldable pub root3_of : ℤ → ℤ
root3_of (pos a) = pos (greatest (λ r. nat_le (r * r * r) a) a)
root3_of (negsuc a) = pos 0
