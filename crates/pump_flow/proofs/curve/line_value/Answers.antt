use Rattle.std.proofs.Common.{◌≡◌, ◌-◌, ◌^◌, length, arith}
use Rattle.std.proofs.lemmas.Int.{to_z-of_z}
use Rattle.fixed_num.specs.Ranges.{IsWithin}
use Rattle.fixed_num.proofs.Bounds.{fits64}
use Rattle.net_types.specs.Records.{pair_at}
use Rattle.rising_pairs.proofs.ReadingLemmas.{reading_of-within}
use Rattle.pump_flow.proofs.CurveLemmas.{first_in, values_in}
use Rattle.pump_flow.proofs.curve.line_value.Goals as goal

pub returns-clause-range : goal.returns-clause-range
returns-clause-range c =
    let points = c.args.points.now in
    let all = c.requires.points in
    let some = c.requires.some in
    let v = simp (to_z-of_z, c.ranges.key) at c.held_reading.ensures in
    let low = first_in points 0 all (omega (arith, some)) in
    let high = first_in points (length points - 1) all (omega (arith, some)) in
    let w = reading_of-within points c.args.key (pair_at points 0).1
    (pair_at points (length points - 1)).1 some c.requires.rising (values_in points all) low high in
    let f : IsWithin (10 ^ 15) c.held_reading.result = rw v w in
    simp (to_z-of_z, fits64 f tt) f
