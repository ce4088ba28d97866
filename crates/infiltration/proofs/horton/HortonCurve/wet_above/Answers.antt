use Rattle.std.proofs.Common.{◌≡◌, ◌^◌, ◌*◌, pos, ◌+ℤ◌, ◌-ℤ◌, FitsSigned, rules, arith}
use Rattle.std.specs.Int.{w64, int_max}
use Rattle.std.proofs.lemmas.Int.{ints, clamps, to_z-of_z}
use Rattle.fixed_num.specs.Ranges.{IsBetween}
use Rattle.fixed_num.proofs.Bounds.{within_sub, within_between, fits64}
use Rattle.infiltration.specs.Depths.{depth_of}
use Rattle.infiltration.specs.Horton.{wet_above_of}
use Rattle.infiltration.proofs.horton.HortonCurve.wet_above.Goals as goal
use Rattle.infiltration.proofs.horton.HortonCurve.wet_above.Goals.{After-max}

more : (c : After-max) → c.max.result ≡ int_max (c.args.taken -ℤ depth_of c.args.self.now.min c.args.ms) (pos 0)
more c =
    let depth = within_between c.depth_over.ensures.range in
    let less = within_sub (within_between c.requires.taken) depth in
    let d = simp (to_z-of_z, fits64 (within_between c.requires.curve.min) tt, c.ranges.ms) at c.depth_over.ensures.value in
    let m = simp (to_z-of_z, c.ranges.taken, fits64 depth tt, fits64 less tt) at c.max.ensures.value in
    cc (d, m)

sum-between : (c : After-max) → IsBetween (pos 0) (c.args.above +ℤ c.max.result) (pos (2 * 10 ^ 16))
sum-between c =
    let depth = c.depth_over.ensures.range in
    let less = within_sub (within_between c.requires.taken) (within_between depth) in
    let m = simp (to_z-of_z, c.ranges.taken, fits64 (within_between depth) tt, fits64 less tt) at c.max.ensures.value in
    record { from = omega (arith, ints, clamps, m, c.requires.above.from); to = omega (arith, ints, clamps, m, depth.from, c.requires.taken.to, c.requires.above.to) }

pub overflow_add-result : goal.overflow_add-result
overflow_add-result c =
    let fits : FitsSigned w64 c.max.result = search rules in
    simp (to_z-of_z, c.ranges.above, fits) (fits64 (within_between (sum-between c)) tt)

pub returns : goal.returns
unfolding wet_above_of
returns c =
    let fits : FitsSigned w64 c.max.result = search rules in
    let m = more c in
    simp (to_z-of_z, c.ranges.above, fits, fits64 (within_between (sum-between c)) tt) (cc m)
