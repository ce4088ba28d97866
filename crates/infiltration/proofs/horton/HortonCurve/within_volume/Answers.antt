use Rattle.std.proofs.Common.{◌^◌, FitsSigned, rules, ℤ, pos, arith}
use Rattle.std.specs.Int.{w64}
use Rattle.std.proofs.lemmas.Int.{ints, clamps, to_z-of_z}
use Rattle.fixed_num.specs.Ranges.{IsBetween}
use Rattle.fixed_num.proofs.Bounds.{within_add, within_sub, within_between, fits64}
use Rattle.infiltration.specs.Horton.{within_volume_of}
use Rattle.infiltration.proofs.horton.HortonCurve.within_volume.Goals as goal

pub returns-then-self-gt0-clause-value : goal.returns-then-self-gt0-clause-value
unfolding within_volume_of
returns-then-self-gt0-clause-value c =
    let volume = within_between c.requires.curve.volume in
    let depth = within_between c.depth_over.ensures.range in
    let sum = within_add depth volume in
    let rest = within_sub sum (within_between c.requires.above) in
    let fits : FitsSigned w64 c.min.result = search rules in
    let test = simp (to_z-of_z, fits64 volume tt) at c.if-self-gt0.true in
    let d = simp (to_z-of_z, fits64 (within_between c.requires.curve.min) tt, c.ranges.ms) at c.depth_over.ensures.value in
    let m = simp (to_z-of_z, c.ranges.most, fits64 depth tt, fits64 volume tt, fits64 sum tt, c.ranges.above, fits64 rest tt) at c.min.ensures.value in
    simp (to_z-of_z, fits, test) (cc (d, m))

pub returns-then-self-gt0-clause-range : goal.returns-then-self-gt0-clause-range
returns-then-self-gt0-clause-range c =
    let volume = within_between c.requires.curve.volume in
    let depth = within_between c.depth_over.ensures.range in
    let sum = within_add depth volume in
    let rest = within_sub sum (within_between c.requires.above) in
    let fits : FitsSigned w64 c.min.result = search rules in
    let test = simp (to_z-of_z, fits64 volume tt) at c.if-self-gt0.true in
    let m = simp (to_z-of_z, c.ranges.most, fits64 depth tt, fits64 volume tt, fits64 sum tt, c.ranges.above, fits64 rest tt) at c.min.ensures.value in
    let held = c.requires.held (omega (arith, ints, test)) in
    simp (to_z-of_z, fits) (record { from = omega (arith, ints, clamps, m); to = omega (arith, ints, clamps, m) })

pub returns-clause-value : goal.returns-clause-value
unfolding within_volume_of
returns-clause-value c =
    let test = simp (to_z-of_z, fits64 (within_between c.requires.curve.volume) tt) at c.if-self-gt0.false in
    simp (to_z-of_z, c.ranges.most, test)
