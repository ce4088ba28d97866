-- When a number reaches a square root.
use Rattle.std.proofs.Common.{◌≡◌, ℕ, suc, ◌+◌, ◌*◌, ◌^◌, ◌<◌, ◌≤◌, Bool, true, false, ℤ, pos, negsuc, ◌+ℤ◌, ◌*ℤ◌, ◌≤ℤ◌, ◌<ℤ◌, int_le, sym, inl, inr, subst, arith}
use Rattle.std.proofs.lemmas.Bool.{cases_lt}
use Rattle.std.proofs.lemmas.Int.{ints}
use Rattle.std.proofs.lemmas.Nat.{mul-le}
use Rattle.fixed_num.specs.Ranges.{IsBetween}
use Rattle.fixed_num.specs.Roots.{root2_of}
use Rattle.fixed_num.proofs.RootLemmas.{root2_at}
use Rattle.fixed_num.proofs.RootLaws.{root2_of-most, root2_of-from_zero, between_root2}

yes : (r v : ℤ) → r ≤ℤ v → int_le r v ≡ true
yes r v h = grind (arith, ints, h)

no : (r v : ℤ) → v <ℤ r → int_le r v ≡ false
no r v h = grind (arith, ints, h)

-- a number below 0 reaches none
pub below_zero : (v a : ℤ) → v <ℤ pos 0 → int_le (root2_of a) v ≡ false
below_zero v a h = no (root2_of a) v (omega (arith, ints, h, root2_of-from_zero a))

-- a number from 2^63 on reaches all roots of numbers to 2^126
pub wide : (v a : ℤ) → pos (2 ^ 63) ≤ℤ v → IsBetween (pos 0) a (pos (2 ^ 126)) → int_le (root2_of a) v ≡ true
wide v a h range =
    let r : IsBetween (pos 0) (root2_of a) (pos (2 ^ 63)) = between_root2 range tt in
    yes (root2_of a) v (omega (arith, ints, h, r.to))

-- a number whose next one has a greater square reaches a root
pub reaching : (v a : ℤ) → pos 0 ≤ℤ v → a <ℤ ((v +ℤ pos 1) *ℤ (v +ℤ pos 1)) → int_le (root2_of a) v ≡ true
reaching (pos v) a from h = yes (root2_of a) (pos v) (root2_of-most a v h)
reaching (negsuc v) a from h = absurd from.le

above_square : (v a : ℕ) → (v + 1) * (v + 1) ≤ a → pos v <ℤ root2_of (pos a)
above_square v a h =
    let f = root2_at a in
    let above : v < f.0 = elim (cases_lt v f.0) [
      | inl less ↦ less
      | inr below ↦ absurd (omega (arith, h, f.1.2, mul-le (f.0 + 1) (f.0 + 1) (v + 1) (v + 1) (omega (arith, below)) (omega (arith, below))))
    ] in
    subst (λ (z : ℤ). pos v <ℤ z) (sym f.1.0) (omega (arith, ints, above))

-- and one whose next one has not does not
pub missing : (v a : ℤ) → pos 0 ≤ℤ v → ((v +ℤ pos 1) *ℤ (v +ℤ pos 1)) ≤ℤ a → int_le (root2_of a) v ≡ false
missing (pos v) (pos a) from h = no (root2_of (pos a)) (pos v) (above_square v a (omega (arith, ints, h)))
missing (pos v) (negsuc a) from h = absurd h.le
missing (negsuc v) a from h = absurd from.le
