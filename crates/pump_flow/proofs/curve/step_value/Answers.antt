use Rattle.std.proofs.Common.{◌≡◌, ℕ, ◌-◌, ◌<◌, ◌≤◌, ◌^◌, nat_lt, Bool, true, false, if◌then◌else◌, List, length, pos}
use Rattle.std.proofs.Common.{ℤ, sym, refl, arith}
use Rattle.std.proofs.lemmas.Bool.Decides.{nat_tests}
use Rattle.std.proofs.lemmas.Int.{to_z-of_z}
use Rattle.fixed_num.specs.Ranges.{IsBetween}
use Rattle.fixed_num.proofs.Bounds.{within_both, within_minus, within_number, within_up, fits64, fits128}
use Rattle.net_types.specs.Records.{pair_at}
use Rattle.rising_pairs.specs.FirstAbove.{first_above}
use Rattle.pump_flow.specs.CurveReading.{step_value_of}
use Rattle.pump_flow.proofs.CurveLemmas.{first_in, same_place}
use Rattle.pump_flow.proofs.curve.step_value.Goals as goal
use Rattle.pump_flow.proofs.curve.step_value.Goals.{After-first_above-above}

place : (c : After-first_above-above) → c.first_above-above.result ≡ first_above c.args.points.now c.args.key
place c =
    let between = c.cut-held.ensures.between in
    let held = within_both between (within_minus 2_000_000_000_000_000) (within_number 2_000_000_000_000_000) in
    let v = simp (to_z-of_z, c.ranges.key) at c.cut-held.ensures.value in
    let p = simp (to_z-of_z, fits128 held tt, fits64 held tt) at c.first_above-above.ensures.parts in
    same_place c.args.points.now c.args.key c.first_above-above.result c.requires.points (rw v at p)

inner : (points : List (ℤ × ℤ)) (key : ℤ) (k : ℕ) → k ≡ first_above points key → k < length points
    → (pair_at points k).1 ≡ step_value_of points key
unfolding step_value_of
inner points key k e h =
    let t : nat_lt (first_above points key) (length points) ≡ true = grind (arith, nat_tests, e, h) in
    rw (t, e) refl

beyond : (points : List (ℤ × ℤ)) (key : ℤ) (k : ℕ) → k ≡ first_above points key → length points ≤ k
    → (pair_at points (length points - 1)).1 ≡ step_value_of points key
unfolding step_value_of
beyond points key k e h =
    let t : nat_lt (first_above points key) (length points) ≡ false = grind (arith, nat_tests, e, h) in
    rw t refl

pub returns-then-above-points-clause-value : goal.returns-then-above-points-clause-value
returns-then-above-points-clause-value c =
    let p = place (goal.at.returns-then-above-points-clause-value c).After-first_above-above in
    let h = c.if-above-points.true in
    let f = first_in c.args.points.now c.first_above-above.result c.requires.points h in
    simp (to_z-of_z, fits64 f tt) (inner c.args.points.now c.args.key c.first_above-above.result p h)

pub returns-clause-value : goal.returns-clause-value
returns-clause-value c =
    let p = place (goal.at.returns-clause-value c).After-first_above-above in
    let h = c.if-above-points.false in
    let f = first_in c.args.points.now (length c.args.points.now - 1) c.requires.points (omega (
      arith,
      c.requires.some,
    )) in
    simp (to_z-of_z, fits64 f tt) (beyond c.args.points.now c.args.key c.first_above-above.result p h)
