use Rattle.std.proofs.Common.{◌≡◌, ◌*◌, ◌^◌, pos}
use Rattle.std.proofs.lemmas.Int.{to_z-of_z}
use Rattle.fixed_num.specs.Ranges.{IsWithin}
use Rattle.fixed_num.proofs.Bounds.{within_mul, within_number, within_quo, fits128}
use Rattle.pump_flow.specs.CurveReading.{user_value_of}
use Rattle.pump_flow.proofs.FlowLemmas.{within_nat}
use Rattle.pump_flow.proofs.curve.user_volume.Goals as goal

pub returns : goal.returns
unfolding user_value_of
returns c =
    let den = within_nat 1_000 c.args.unit.now.den c.requires.part in
    let num = within_nat (10 ^ 11) c.args.unit.now.num c.requires.unit.num_at_most in
    let p1 = within_mul c.requires.volume den in
    let p2 = within_mul p1 (within_number 1_000_000) in
    let v = simp (
      to_z-of_z,
      fits128 c.requires.volume tt,
      fits128 den tt,
      fits128 num tt,
      fits128 p1 tt,
      fits128 p2 tt,
    ) at c.quo.ensures.value in
    let f : IsWithin (10 ^ 37) c.quo.result = rw v (within_quo (pos c.args.unit.now.num) p2) in
    record { value = simp (to_z-of_z, fits128 c.requires.volume tt, fits128 f tt) v }
