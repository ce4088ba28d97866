use Rattle.std.proofs.Common.{◌≡◌, pos, arith}
use Rattle.std.proofs.lemmas.Int.{ints, clamps, to_z-of_z}
use Rattle.fixed_num.specs.Ranges.{IsBetween}
use Rattle.fixed_num.proofs.Bounds.{within_between, fits64}
use Rattle.orifice_weir.proofs.weir.crested_flow.Goals as goal

pub submerged-requires-clause-high : goal.submerged-requires-clause-high
submerged-requires-clause-high c =
    let full = c.requires.weir.full in
    let m = simp (to_z-of_z, c.ranges.high, fits64 (within_between full) tt) at c.min-head.ensures.value in
    let head : IsBetween (pos 1) c.min-head.result (pos 1_000_000_000) = record {
      from = omega (arith, ints, clamps, m, full.from, c.requires.high.from);
      to = omega (arith, ints, clamps, m, full.to);
    } in
    simp (to_z-of_z, fits64 (within_between head) tt) head
