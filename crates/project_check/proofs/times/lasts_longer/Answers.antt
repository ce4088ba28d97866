use Rattle.std.proofs.Common.{arith, ◌-ℤ◌, FitsSigned, to_z-of_z}
use Rattle.std.specs.Int.{w64}
use Rattle.std.proofs.lemmas.Int.{ints}
use Rattle.project_check.proofs.times.lasts_longer.Goals as goal

pub returns : goal.returns
returns c =
    let o = c.args.options.now in
    let fs : FitsSigned w64 o.start = omega (arith, ints) in
    let ff : FitsSigned w64 o.finish = omega (arith, ints) in
    let fd : FitsSigned w64 (o.finish -ℤ o.start) = omega (arith, ints) in
    simp (to_z-of_z, c.ranges.time, fs, ff, fd)
