-- The ranges of the modified Horton method.
use Rattle.std.proofs.Common.{◌≡◌, ℕ, ◌*◌, ◌^◌, Bool, true, false, if◌then◌else◌, int_lt, ℤ, pos, negsuc, ◌+ℤ◌, ◌-ℤ◌, ◌*ℤ◌, ◌≤ℤ◌, ◌<ℤ◌, refl, arith}
use Rattle.std.specs.Int.{int_min, int_max}
use Rattle.std.proofs.lemmas.Int.{ints, clamps}
use Rattle.fixed_num.specs.Ranges.{IsBetween}
use Rattle.fixed_num.specs.Rounding.{quo_of}
use Rattle.fixed_num.proofs.Bounds.{between_cut, between_mul, quo_of-from_zero}
use Rattle.infiltration.specs.Depths.{IsRunoffStep, depth_of}
use Rattle.infiltration.specs.Horton.{IsHortonCurve, IsHortonState, dry_above_of, horton_after, horton_opening, rate_of, wet_above_of, wet_taken_of, within_volume_of}
use Rattle.infiltration.specs.declared.horton.HortonCurve.{HortonCurve}
use Rattle.infiltration.specs.declared.states.HortonState.{HortonState}
use Rattle.infiltration.proofs.DepthLemmas.{depth_between, depth_slow}

pub rate_between : {curve : HortonCurve} (above : ℤ) → IsHortonCurve curve → IsBetween curve.min (rate_of curve above) curve.max
unfolding rate_of
rate_between above h = between_cut _ h.ordered

-- ---- a step with water
least_first : (b : Bool) (x y m : ℤ) → x ≤ℤ m → (if b then int_min x y else x) ≤ℤ m
least_first true x y m h = omega (arith, ints, clamps)
least_first false x y m h = h

least_second : (b : Bool) (volume x y : ℤ) → int_lt (pos 0) volume ≡ b → pos 0 <ℤ volume → (if b then int_min x y else x) ≤ℤ y
least_second true volume x y e h = omega (arith, ints, clamps)
least_second false volume x y e h = absurd (omega (arith, ints, e, h))

taken_slow : (curve : HortonCurve) (above available ms : ℤ) → IsHortonCurve curve → IsRunoffStep ms → wet_taken_of curve above available ms ≤ℤ (pos 2_778 *ℤ ms)
unfolding wet_taken_of within_volume_of
taken_slow curve above available ms h t =
    let rate = rate_between {curve = curve} above h in
    let low = h.min.from in
    let high = h.max.to in
    let slow = depth_slow {rate = rate_of curve above} {ms = ms} (record { from = omega (arith, ints, rate.from, low); to = omega (arith, ints, rate.to, high) }) t in
    least_first (int_lt (pos 0) curve.volume) (int_min available (depth_of (rate_of curve above) ms)) _ (pos 2_778 *ℤ ms) (omega (arith, ints, clamps, slow))

taken_held : (curve : HortonCurve) (above available ms : ℤ) → pos 0 <ℤ curve.volume → wet_taken_of curve above available ms ≤ℤ (depth_of curve.min ms +ℤ curve.volume -ℤ above)
unfolding wet_taken_of within_volume_of
taken_held curve above available ms v = least_second (int_lt (pos 0) curve.volume) curve.volume _ _ refl v

wet_state : (most : ℤ) (curve : HortonCurve) (s : HortonState) (available ms : ℤ) → IsHortonCurve curve → IsHortonState most curve s → IsRunoffStep ms
    → IsHortonState (most +ℤ pos 2_778 *ℤ ms) curve (record { above = wet_above_of curve s.above (wet_taken_of curve s.above available ms) ms })
unfolding wet_above_of
wet_state most curve s available ms h k t =
    let slow = taken_slow curve s.above available ms h t in
    let least = depth_between {rate = curve.min} {ms = ms} h.min t in
    record {
      above = record { from = omega (arith, ints, clamps, k.above.from); to = omega (arith, ints, clamps, k.above.to, slow, least.from, t.from) };
      held = λ v. omega (arith, ints, clamps, k.held v, taken_held curve s.above available ms v);
    }

-- ---- a step without water
dry_state : (most : ℤ) (curve : HortonCurve) (s : HortonState) (ms : ℤ) → IsHortonState most curve s → IsHortonCurve curve → IsRunoffStep ms
    → IsHortonState (most +ℤ pos 2_778 *ℤ ms) curve (record { above = dry_above_of curve s.above ms })
unfolding dry_above_of
dry_state most curve s ms k h t =
    let four : pos 0 ≤ℤ (pos 4 *ℤ s.above) = omega (arith, ints, k.above.from) in
    let product = from_zero (pos 4 *ℤ s.above) ms four (omega (arith, ints, t.from)) in
    let dried = quo_of-from_zero (pos 4 *ℤ s.above *ℤ ms) curve.dry product in
    record {
      above = record { from = omega (arith, ints, clamps, k.above.from); to = omega (arith, ints, clamps, k.above.from, k.above.to, dried, t.from) };
      held = λ v. omega (arith, ints, clamps, k.above.from, k.held v, dried);
    }
  where
    from_zero : (a b : ℤ) → pos 0 ≤ℤ a → pos 0 ≤ℤ b → pos 0 ≤ℤ (a *ℤ b)
    from_zero (pos a) (pos b) h k = omega (arith, ints)
    from_zero a (negsuc b) h k = absurd k.le
    from_zero (negsuc a) b h k = absurd h.le

by_water : (P : ℤ → Type 0) (b : Bool) {x y : ℤ} → P x → P y → P (if b then x else y)
by_water P true h k = h
by_water P false h k = k

-- what was taken grows slowly, and stays in the volume
pub horton_growth : (most : ℤ) (curve : HortonCurve) (s : HortonState) (available ms : ℤ) → IsHortonCurve curve → IsHortonState most curve s → IsRunoffStep ms
    → IsHortonState (most +ℤ pos 2_778 *ℤ ms) curve (horton_after curve s available ms)
horton_growth most curve s available ms h k t =
    by_water (λ (z : ℤ). IsHortonState (most +ℤ pos 2_778 *ℤ ms) curve (record { above = z })) (int_lt (pos 0) available)
    (wet_state most curve s available ms h k t) (dry_state most curve s ms k h t)

-- ---- a state of a hotstart
into_volume : (b : Bool) (volume x most : ℤ) → int_lt (pos 0) volume ≡ b → IsBetween (pos 0) x most → IsBetween (pos 0) (if b then int_min x volume else x) most
into_volume true volume x most e h = record { from = omega (arith, ints, clamps, h.from, e); to = omega (arith, ints, clamps, h.to) }
into_volume false volume x most e h = h

pub horton_opened : (most : ℤ) (curve : HortonCurve) (s : HortonState) → IsBetween (pos 0) s.above most → IsHortonState most curve (horton_opening curve s)
unfolding horton_opening
horton_opened most curve s h = record {
  above = into_volume (int_lt (pos 0) curve.volume) curve.volume s.above most refl h;
  held = λ v. least_second (int_lt (pos 0) curve.volume) curve.volume s.above curve.volume refl v;
}
