use Rattle.std.proofs.Common.{◌^◌, FitsSigned, rules, pos, ◌≤ℤ◌, arith}
use Rattle.std.specs.Int.{w64}
use Rattle.std.proofs.lemmas.Int.{ints, clamps, to_z-of_z}
use Rattle.fixed_num.specs.Ranges.{IsBetween, IsWithin}
use Rattle.fixed_num.proofs.Bounds.{within_between, within_both, fits64}
use Rattle.infiltration.specs.Horton.{wet_taken_of}
use Rattle.infiltration.proofs.horton.HortonCurve.wet_taken.Goals as goal
use Rattle.infiltration.proofs.horton.HortonCurve.wet_taken.Goals.{After-min-most}

pub returns-clause-value : goal.returns-clause-value
unfolding wet_taken_of
returns-clause-value c =
    let rate = within_both c.rate.ensures.range (within_between c.requires.curve.min) (within_between c.requires.curve.max) in
    let depth = within_between c.depth_over.ensures.range in
    let most : FitsSigned w64 c.min-most.result = search rules in
    let fits : FitsSigned w64 c.within_volume.result = search rules in
    let r = simp (to_z-of_z, c.ranges.above) at c.rate.ensures.value in
    let d = simp (to_z-of_z, fits64 rate tt, c.ranges.ms) at c.depth_over.ensures.value in
    let m = simp (to_z-of_z, c.ranges.available, fits64 depth tt) at c.min-most.ensures.value in
    let v = simp (to_z-of_z, most, c.ranges.above, c.ranges.ms) at c.within_volume.ensures.value in
    simp (to_z-of_z, fits) (cc (r, d, m, v))
