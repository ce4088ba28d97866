use Rattle.std.proofs.Common.{◌+◌, FitsSigned, arith}
use Rattle.std.specs.Int.{w64}
use Rattle.std.proofs.lemmas.Int.{ints, to_z-of_z}
use Rattle.fixed_num.proofs.Bounds.{within_between, fits64}
use Rattle.xsect_tables.specs.SectionTable.{entry}
use Rattle.xsect_tables.proofs.LookUpLemmas.{height_between, strip_by_ends}
use Rattle.xsect_tables.proofs.look_up.is_strip.Goals as goal

pub returns-then-i-eq199 : goal.returns-then-i-eq199
returns-then-i-eq199 c =
    let fits : FitsSigned w64 (entry c.args.heights.now c.args.i) = fits64 (within_between (height_between c.requires.grid c.args.i (omega (arith, c.requires.strip)))) tt in
    let test = simp (to_z-of_z, c.ranges.y, fits) at c.if-y-heights.false in
    λ h. strip_by_ends c.args.i c.requires.grid c.requires.depth.from c.requires.strip (grind (arith, ints, test)) (λ k. absurd (omega (arith, k)))

pub returns : goal.returns
returns c =
    let fits : FitsSigned w64 (entry c.args.heights.now c.args.i) = fits64 (within_between (height_between c.requires.grid c.args.i (omega (arith, c.requires.strip)))) tt in
    let next : FitsSigned w64 (entry c.args.heights.now (c.args.i + 1)) = fits64 (within_between (height_between c.requires.grid (c.args.i + 1) (omega (arith, c.requires.strip)))) tt in
    let test = simp (to_z-of_z, c.ranges.y, fits) at c.if-y-heights.false in
    λ h. let above = simp (to_z-of_z, c.ranges.y, next) at h in
    strip_by_ends c.args.i c.requires.grid c.requires.depth.from c.requires.strip (grind (arith, ints, test)) (λ k. grind (arith, ints, above))
