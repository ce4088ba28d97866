use Rattle.std.proofs.Common.{◌≡◌, ◌*◌, ◌^◌, pos, arith}
use Rattle.std.proofs.lemmas.Int.{ints, clamps, to_z-of_z}
use Rattle.fixed_num.specs.Ranges.{IsBetween}
use Rattle.fixed_num.proofs.Bounds.{within_between, within_sub, fits64}
use Rattle.orifice_weir.proofs.weir.clear_width.Goals as goal

pub returns-clause-range : goal.returns-clause-range
returns-clause-range c =
    let taken = within_between c.contraction.ensures.range in
    let rest = within_sub (within_between c.requires.width) taken in
    let x = simp (to_z-of_z, c.ranges.width, fits64 taken tt, fits64 rest tt) at c.max.ensures.value in
    let range : IsBetween (pos 0) c.max.result (pos (10 ^ 10)) = record {
      from = omega (arith, ints, clamps, x);
      to = omega (arith, ints, clamps, x, c.requires.width.to, c.requires.width.from, c.contraction.ensures.range.from);
    } in
    simp (to_z-of_z, fits64 (within_between range) tt) range
