-- What a test of the code says of the definition's test.
use Rattle.std.proofs.Common.{◌≡◌, ◌∙◌, ℤ, pos, Bool, true, false, of_z, to_z, FitsSigned, refl, sym, ap}
use Rattle.std.specs.Int.{w64}
use Rattle.std.specs.Ordering.{int_eq}
use Rattle.std.proofs.lemmas.Int.{to_z-of_z}
use Rattle.std.proofs.lemmas.Bool.Decides.{Decides-int_eq}
use Rattle.conduit_flow.specs.declared.geometry.Middle.{Middle}
use Rattle.conduit_flow.specs.ConduitShare.{is_dry}

refuted : (b : Bool) → ¬ (b ≡ true) → b ≡ false
refuted true n = absurd (n refl)
refuted false n = refl

-- a number whose bits are not those of 0 is not 0
pub unequal : (x : ℤ) → ¬ (of_z w64 x ≡ 0) → int_eq x (pos 0) ≡ false
unequal x h = refuted (int_eq x (pos 0)) (λ e. h (ap (of_z w64) ((Decides-int_eq x (pos 0)).0 e)))

-- a number whose bits are those of 0 is 0
pub zero_is : (x : ℤ) → FitsSigned w64 x → of_z w64 x ≡ 0 → x ≡ pos 0
zero_is x fits e = sym (to_z-of_z w64 x fits) ∙ ap (to_z w64) e

pub one_is : (x : ℤ) → FitsSigned w64 x → of_z w64 x ≡ 1 → x ≡ pos 1
one_is x fits e = sym (to_z-of_z w64 x fits) ∙ ap (to_z w64) e

pub not_dry : (middle : Middle) → int_eq middle.area (pos 0) ≡ false → int_eq middle.radius (pos 0) ≡ false → is_dry middle ≡ false
unfolding is_dry
not_dry middle a r = rw (a, r) refl
