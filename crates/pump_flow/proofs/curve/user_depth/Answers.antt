use Rattle.std.proofs.Common.{◌≡◌, ◌*◌, ◌^◌, pos, arith}
use Rattle.std.proofs.lemmas.Int.{ints, to_z-of_z}
use Rattle.fixed_num.specs.Ranges.{IsWithin}
use Rattle.fixed_num.proofs.Bounds.{within_mul, within_number, within_quo, fits64, fits128, fits_wider}
use Rattle.pump_flow.specs.CurveReading.{user_value_of}
use Rattle.pump_flow.proofs.FlowLemmas.{within_nat}
use Rattle.pump_flow.proofs.curve.user_depth.Goals as goal
use Rattle.pump_flow.proofs.curve.user_depth.Goals.{After-quo}

value : (c : After-quo) → c.quo.result ≡ user_value_of c.args.unit.now c.args.depth
unfolding user_value_of
value c =
    let den = within_nat 1 c.args.unit.now.den (omega (arith, c.requires.whole)) in
    let num = within_nat (10 ^ 11) c.args.unit.now.num c.requires.unit.num_at_most in
    let p1 = within_mul c.requires.depth den in
    let p2 = within_mul p1 (within_number 1_000_000) in
    simp (
      to_z-of_z,
      c.ranges.depth,
      fits_wider _ c.ranges.depth,
      fits128 den tt,
      fits128 num tt,
      fits128 p1 tt,
      fits128 p2 tt,
    ) at c.quo.ensures.value

small : (c : After-quo) → IsWithin (4 * 10 ^ 16) c.quo.result
unfolding user_value_of
small c =
    let den = within_nat 1 c.args.unit.now.den (omega (arith, c.requires.whole)) in
    let p2 = within_mul (within_mul c.requires.depth den) (within_number 1_000_000) in
    rw (value c) (within_quo (pos c.args.unit.now.num) p2)

pub overflow_cast-result : goal.overflow_cast-result
overflow_cast-result c =
    let f = small (goal.at.overflow_cast-result c).After-quo in
    simp (to_z-of_z, fits128 f tt) (fits64 f tt)

pub returns : goal.returns
returns c =
    let before = (goal.at.returns c).After-quo in
    let f = small before in
    record { value = simp (to_z-of_z, fits128 f tt, fits64 f tt) (value before) }
