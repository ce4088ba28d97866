-- The states of the curve number method stay in their ranges and grow slowly.
use Rattle.std.proofs.Common.{◌≡◌, ◌*◌, ◌^◌, Bool, true, false, if◌then◌else◌, int_le, int_lt, ℤ, pos, negsuc, ◌+ℤ◌, ◌-ℤ◌, ◌*ℤ◌, ◌≤ℤ◌, subst, sym, refl, arith}
use Rattle.std.specs.Int.{int_min, int_max}
use Rattle.std.proofs.lemmas.Int.{ints, clamps}
use Rattle.fixed_num.specs.Ranges.{IsBetween, IsDryingTime}
use Rattle.fixed_num.specs.Rounding.{quo_of}
use Rattle.fixed_num.proofs.Bounds.{quo_of-from_zero}
use Rattle.infiltration.specs.CurveNumber.{AreCurveNumbersUpTo, IsCurveNumber, IsCurveState, dried_room_of, dry_after, event_gap, greatest_room_of, number_after, number_opening, number_start, pause_after, rain_after, rain_taken_of, soaked_of}
use Rattle.infiltration.specs.Depths.{IsRunoffStep}
use Rattle.infiltration.specs.declared.states.CurveState.{CurveState}
use Rattle.infiltration.proofs.CurveLemmas.{greatest_between, soaked_between, soaked_more}

pub started : (cn6 : ℤ) → IsCurveNumber cn6 → IsCurveState (pos 0) cn6 (number_start cn6)
started cn6 h =
    let greatest = greatest_between cn6 h in
    let soaked = soaked_between (pos 0) (greatest_room_of cn6) (omega (arith, ints)) greatest.from in
    record {
      room = record { from = greatest.from; to = omega (arith, ints) };
      event_room = record { from = greatest.from; to = omega (arith, ints) };
      rain = record { from = omega (arith, ints); to = omega (arith, ints) };
      taken = record { from = omega (arith, ints); to = soaked.from };
      dry = record { from = omega (arith, ints); to = omega (arith, ints) };
    }

pub opened : (most cn6 : ℤ) (s : CurveState) → IsCurveNumber cn6 → AreCurveNumbersUpTo most s → IsCurveState most cn6 (number_opening cn6 s)
unfolding number_opening
opened most cn6 s h k =
    let greatest = greatest_between cn6 h in
    let room : pos 0 ≤ℤ int_min s.event_room (greatest_room_of cn6) = omega (arith, ints, clamps, k.event_room.from, greatest.from) in
    let soaked = soaked_between s.rain (int_min s.event_room (greatest_room_of cn6)) k.rain.from room in
    record {
      room = record { from = omega (arith, ints, clamps, k.room.from, greatest.from); to = omega (arith, ints, clamps) };
      event_room = record { from = room; to = omega (arith, ints, clamps) };
      rain = k.rain;
      taken = record { from = omega (arith, ints, clamps, k.taken.from, soaked.from); to = omega (arith, ints, clamps) };
      dry = k.dry;
    }

-- ---- a step with rain
wet_state : (most cn6 : ℤ) (s : CurveState) (rain available ms : ℤ) → IsCurveNumber cn6 → IsCurveState most cn6 s → IsBetween (pos 0) rain available → rain ≤ℤ (pos 2_778 *ℤ ms)
    → IsCurveState (most +ℤ pos 2_778 *ℤ ms) cn6 (rain_after s rain available)
unfolding rain_after rain_taken_of
wet_state most cn6 s rain available ms h k r slow =
    let more = soaked_more s.rain rain s.event_room k.rain.from r.from k.event_room.from in
    let fallen : pos 0 ≤ℤ (s.rain +ℤ rain) = omega (arith, ints, k.rain.from, r.from) in
    let soaked = soaked_between (s.rain +ℤ rain) s.event_room fallen k.event_room.from in
    record {
      room = record { from = omega (arith, ints, clamps); to = omega (arith, ints, clamps, k.room.from, k.room.to, more, k.taken.to, r.from, r.to) };
      event_room = k.event_room;
      rain = record { from = fallen; to = omega (arith, ints, k.rain.to, slow) };
      taken = record { from = soaked.from; to = omega (arith, ints) };
      dry = record { from = omega (arith, ints); to = omega (arith, ints, k.rain.from, k.rain.to, r.from, slow) };
    }

-- ---- a step without rain
dried_between : (cn6 dry room ms : ℤ) → IsCurveNumber cn6 → IsBetween (pos 0) room (greatest_room_of cn6) → IsRunoffStep ms → IsBetween (pos 0) (dried_room_of cn6 dry room ms) (greatest_room_of cn6)
unfolding dried_room_of
dried_between cn6 dry room ms h k t =
    let greatest = greatest_between cn6 h in
    let dried = quo_of-from_zero (greatest_room_of cn6 *ℤ ms) dry (from_zero (greatest_room_of cn6) ms greatest.from (omega (arith, ints, t.from))) in
    record { from = omega (arith, ints, clamps, greatest.from, k.from, dried); to = omega (arith, ints, clamps) }
  where
    from_zero : (a b : ℤ) → pos 0 ≤ℤ a → pos 0 ≤ℤ b → pos 0 ≤ℤ (a *ℤ b)
    from_zero (pos a) (pos b) h k = omega (arith, ints)
    from_zero a (negsuc b) h k = absurd k.le
    from_zero (negsuc a) b h k = absurd h.le

pause_state : (b : Bool) (most cn6 room ms : ℤ) (s : CurveState) → IsCurveNumber cn6 → IsBetween (pos 0) room (greatest_room_of cn6) → IsCurveState most cn6 s → IsRunoffStep ms
    → IsCurveState (most +ℤ pos 2_778 *ℤ ms) cn6
    (if b then record { room = room; event_room = room; rain = pos 0; taken = pos 0; dry = s.dry +ℤ ms }
    else record { room = room; event_room = s.event_room; rain = s.rain; taken = s.taken; dry = s.dry +ℤ ms })
pause_state true most cn6 room ms s h r k t =
    let soaked = soaked_between (pos 0) room (omega (arith, ints)) r.from in
    record {
      room = r;
      event_room = r;
      rain = record { from = omega (arith, ints); to = omega (arith, ints, k.rain.from, k.rain.to, t.from) };
      taken = record { from = omega (arith, ints); to = soaked.from };
      dry = record { from = omega (arith, ints, k.dry.from, t.from); to = omega (arith, ints, k.dry.to, t.from) };
    }
pause_state false most cn6 room ms s h r k t = record {
  room = r;
  event_room = k.event_room;
  rain = record { from = k.rain.from; to = omega (arith, ints, k.rain.to, t.from) };
  taken = k.taken;
  dry = record { from = omega (arith, ints, k.dry.from, t.from); to = omega (arith, ints, k.dry.to, t.from) };
}

dry_state : (most cn6 dry ms : ℤ) (s : CurveState) → IsCurveNumber cn6 → IsCurveState most cn6 s → IsRunoffStep ms → IsCurveState (most +ℤ pos 2_778 *ℤ ms) cn6 (dry_after cn6 dry s ms)
unfolding dry_after
dry_state most cn6 dry ms s h k t =
    pause_state (int_le event_gap (s.dry +ℤ ms)) most cn6 (dried_room_of cn6 dry s.room ms) ms s h (dried_between cn6 dry s.room ms h k.room t) k t

by_rain : (P : CurveState → Type 0) (b : Bool) {x y : CurveState} → P x → P y → P (if b then x else y)
by_rain P true h k = h
by_rain P false h k = k

pub curve_growth : (most cn6 dry : ℤ) (s : CurveState) (rain available ms : ℤ) → IsCurveNumber cn6 → IsCurveState most cn6 s → IsBetween (pos 0) rain available → rain ≤ℤ (pos 2_778 *ℤ ms) → IsRunoffStep ms
    → IsCurveState (most +ℤ pos 2_778 *ℤ ms) cn6 (number_after cn6 dry s rain available ms)
curve_growth most cn6 dry s rain available ms h k r slow t =
    by_rain (IsCurveState (most +ℤ pos 2_778 *ℤ ms) cn6) (int_lt (pos 0) rain)
    (wet_state most cn6 s rain available ms h k r slow) (dry_state most cn6 dry ms s h k t)
