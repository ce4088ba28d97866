-- What the tests of the code say of an orifice that is still, and numbers that are not below 0.
use Rattle.std.proofs.Common.{◌≡◌, ℕ, ◌||◌, Bool, true, false, int_le, ℤ, pos, FitsSigned, of_z, to_z, refl, sym, ap}
use Rattle.std.proofs.Common.{◌∙◌, arith}
use Rattle.std.specs.Int.{int_max, w64}
use Rattle.std.specs.Ordering.{int_eq}
use Rattle.std.proofs.lemmas.Bool.Decides.{Decides-int_eq}
use Rattle.std.proofs.lemmas.Int.{ints, clamps, to_z-of_z}
use Rattle.fixed_num.specs.Ranges.{IsBetween, IsWithin}
use Rattle.orifice_weir.specs.Heads.{directed_of, upper_of}
use Rattle.orifice_weir.specs.OrificeFlow.{contracted_of, discharge_of, is_still, jet_of, opening_of, orifice_flow_of}
use Rattle.orifice_weir.specs.OrificeFlow.{orifice_head_of}
use Rattle.orifice_weir.specs.declared.orifice.OrificeData.{OrificeData}

-- ---- numbers
pub not_below : {m : ℕ} {x : ℤ} → IsWithin m x → IsBetween (pos 0) (int_max x (pos 0)) (pos m)
not_below {m} {x} h = record { from = omega (arith, ints, clamps); to = omega (arith, ints, clamps, h.within) }

pub zero_bits : (x : ℤ) → FitsSigned w64 x → of_z w64 x ≡ 0 → x ≡ pos 0
zero_bits x f h = sym (to_z-of_z w64 x f) ∙ ap (to_z w64) h

refuted : (b : Bool) → ¬ (b ≡ true) → b ≡ false
refuted true n = absurd (n refl)
refuted false n = refl

pub unequal : (x : ℤ) → ¬ (of_z w64 x ≡ 0) → int_eq x (pos 0) ≡ false
unequal x h = refuted (int_eq x (pos 0)) (λ e. h (ap (of_z w64) ((Decides-int_eq x (pos 0)).0 e)))

-- ---- three tests
second : (a b c : Bool) → b ≡ true → (a || b || c) ≡ true
second true b c e = refl
second false b c e = rw e refl

third : (a b c : Bool) → c ≡ true → (a || b || c) ≡ true
third true b c e = refl
third false true c e = refl
third false false c e = e

no_flow : (orifice : OrificeData) (setting near far area : ℤ) → is_still orifice setting near far ≡ true
    → pos 0 ≡ orifice_flow_of orifice setting near far area
unfolding orifice_flow_of
no_flow orifice setting near far area e = rw e refl

pub unreached : (orifice : OrificeData) (setting near far area : ℤ)
    → int_le (upper_of near far orifice.sill) (pos 0) ≡ true → pos 0 ≡ orifice_flow_of orifice setting near far area
unfolding is_still
unreached orifice setting near far area e = no_flow orifice setting near far area (rw e refl)

pub shut : (orifice : OrificeData) (setting near far area : ℤ) → opening_of orifice setting ≡ pos 0
    → pos 0 ≡ orifice_flow_of orifice setting near far area
unfolding is_still
shut orifice setting near far area e =
    no_flow orifice setting near far area
    (second (int_le (upper_of near far orifice.sill) (pos 0)) (int_eq (opening_of orifice setting) (pos 0))
    (int_le (orifice_head_of orifice setting near far) (pos 0)) (rw e refl))

pub undriven : (orifice : OrificeData) (setting near far area : ℤ)
    → int_le (orifice_head_of orifice setting near far) (pos 0) ≡ true
    → pos 0 ≡ orifice_flow_of orifice setting near far area
unfolding is_still
undriven orifice setting near far area e =
    no_flow orifice setting near far area
    (third (int_le (upper_of near far orifice.sill) (pos 0)) (int_eq (opening_of orifice setting) (pos 0))
    (int_le (orifice_head_of orifice setting near far) (pos 0)) e)

pub flows : (orifice : OrificeData) (setting near far area : ℤ)
    → int_le (upper_of near far orifice.sill) (pos 0) ≡ false → int_eq (opening_of orifice setting) (pos 0) ≡ false
    → int_le (orifice_head_of orifice setting near far) (pos 0) ≡ false
    → directed_of near far
    (discharge_of (contracted_of orifice.cd6 area) (jet_of (orifice_head_of orifice setting near far))) ≡ orifice_flow_of orifice setting near far area
unfolding is_still orifice_flow_of
flows orifice setting near far area e f g = rw (e, f, g) refl
