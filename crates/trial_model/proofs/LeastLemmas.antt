-- The least of many numbers is one of them, and none of them is less.
use Rattle.std.proofs.Common.{◌≡◌, ℕ, zero, suc, ◌<◌, ◌≤◌, ◌⊎◌, inl, inr, ℤ, pos, Bool, refl, ◌∙◌, arith}
use Rattle.std.proofs.Math.Nat.{eq-or-lt_of_le}
use Rattle.std.specs.Int.{int_min}
use Rattle.std.proofs.lemmas.Int.{ints, clamps}
use Rattle.fixed_num.specs.Sums.{least_below}
use Rattle.phase_law.specs.Law.{Law}
use Rattle.trial_model.specs.declared.nets.Nets.{Nets}
use Rattle.trial_model.specs.Trial.{share_in, with_flows, trial, IsLeast}

-- the lesser of two numbers is one of them
either : (a b : ℤ) → (int_min a b ≡ a) ⊎ (int_min a b ≡ b)
either a b = grind (arith, ints, clamps)

pub is_least : (most : ℤ) (f : ℕ → ℤ) (n : ℕ) → IsLeast most f n (least_below most f n)
is_least most f zero = record {
  within = omega (arith, ints);
  each = λ k h. absurd (omega arith);
  one = inl refl;
}
is_least most f (suc n) =
    let before = is_least most f n in
    record {
      within = omega (arith, ints, clamps, before.within);
      each = λ k h.
          let few : k ≤ n = omega arith in
          elim (eq-or-lt_of_le few) [
            | inl same ↦ rw same (omega (arith, ints, clamps))
            | inr less ↦ omega (arith, ints, clamps, before.each k less)
          ];
      one = elim (either (least_below most f n) (f n)) [
        | inl old ↦ older old before.one
        | inr new ↦ inr (n, omega arith, new)
      ];
    }
  where
    older : int_min (least_below most f n) (f n) ≡ least_below most f n
        → (least_below most f n ≡ most) ⊎ ((k : ℕ) × (k < n) × (least_below most f n ≡ f k))
        → (int_min (least_below most f n) (f n) ≡ most) ⊎ ((k : ℕ) × (k < suc n) × (int_min (least_below most f n) (f n) ≡ f k))
    older same (inl e) = inl (same ∙ e)
    older same (inr (k, h, e)) = inr (k, omega arith, same ∙ e)

-- the least time of a trial
pub trial_least : (law : Law) (s : Nets) (first : Bool) → IsLeast (pos 3_600_000) (λ l. (share_in law s first l).time) law.links (trial law s first).least
unfolding trial with_flows
trial_least law s first = is_least (pos 3_600_000) (λ l. (share_in law s first l).time) law.links
