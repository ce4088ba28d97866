use Rattle.std.proofs.Common.{◌≡◌, ◌+◌, ◌*◌, ◌/◌, FitsSigned, unsigned_abs, int_le, true, false, arith}
use Rattle.std.specs.Int.{w64}
use Rattle.std.proofs.lemmas.Int.{to_z-of_z}
use Rattle.fixed_num.proofs.Bounds.{within_between, fits64}
use Rattle.xsect_tables.specs.SectionTable.{entry}
use Rattle.xsect_tables.proofs.LookUpLemmas.{height_between, last_strip, next_strip, part_strip}
use Rattle.xsect_tables.proofs.look_up.strip_at.Goals as goal
use Rattle.xsect_tables.proofs.look_up.strip_at.Goals.{After-part_of-i}

part : (c : After-part_of-i) → c.part_of-i.result ≡ 200 * unsigned_abs c.args.y / unsigned_abs (entry c.args.heights.now 200)
part c = simp (to_z-of_z, c.ranges.y, fits64 (within_between (height_between c.requires.grid 200 (omega arith))) tt) at c.part_of-i.ensures

pub returns-then-i-ge199-clause-value : goal.returns-then-i-ge199-clause-value
returns-then-i-ge199-clause-value c = last_strip _ c.requires.grid c.requires.depth.from (part (goal.at.returns-then-i-ge199-clause-value c).After-part_of-i) c.if-i-ge199.true

pub returns-then-heights-i-clause-value : goal.returns-then-heights-i-clause-value
returns-then-heights-i-clause-value c =
    let fits : FitsSigned w64 (entry c.args.heights.now (c.part_of-i.result + 1)) = fits64 (within_between (height_between c.requires.grid (c.part_of-i.result + 1) (omega arith))) tt in
    let test : int_le (entry c.args.heights.now (c.part_of-i.result + 1)) c.args.y ≡ true = simp (to_z-of_z, c.ranges.y, fits) at c.if-heights-i.true in
    next_strip _ c.requires.grid c.requires.depth.from (part (goal.at.returns-then-heights-i-clause-value c).After-part_of-i) c.if-i-ge199.false test

pub returns-else-heights-i-clause-value : goal.returns-else-heights-i-clause-value
returns-else-heights-i-clause-value c =
    let fits : FitsSigned w64 (entry c.args.heights.now (c.part_of-i.result + 1)) = fits64 (within_between (height_between c.requires.grid (c.part_of-i.result + 1) (omega arith))) tt in
    let test : int_le (entry c.args.heights.now (c.part_of-i.result + 1)) c.args.y ≡ false = simp (to_z-of_z, c.ranges.y, fits) at c.if-heights-i.false in
    part_strip _ c.requires.grid c.requires.depth.from (part (goal.at.returns-else-heights-i-clause-value c).After-part_of-i) c.if-i-ge199.false test
