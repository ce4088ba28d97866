-- The account of a link.
use Rattle.std.proofs.Common.{◌≡◌, ℤ, pos, ◌-ℤ◌, neg_ℤ, ap, arith}
use Rattle.std.proofs.lemmas.Int.{ints}
use Rattle.net_types.specs.declared.account.StepAccount.{StepAccount}
use Rattle.continuity.specs.Parts.{changed}

minus_is : (x : ℤ) → pos 0 -ℤ x ≡ neg_ℤ x
minus_is x = omega (arith, ints)

pub changed_is : (x : ℤ) → ◌≡◌ {A = StepAccount} (record { inflow = pos 0; outfall = pos 0; flooding = pos 0; storage = x; error = pos 0 -ℤ x }) (changed x)
changed_is x = ap (λ (z : ℤ). record { inflow = pos 0; outfall = pos 0; flooding = pos 0; storage = x; error = z }) (minus_is x)
