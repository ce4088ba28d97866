use Rattle.std.proofs.Common.{arith}
use Rattle.std.proofs.lemmas.Int.{to_z-of_z}
use Rattle.fixed_num.proofs.Bounds.{within_between, fits64}
use Rattle.xsect_tables.proofs.RowLemmas.{filled_none, filled_more, filled_all}
use Rattle.xsect_tables.proofs.rows.heights.Goals as goal

pub loop-i-init : goal.loop-i-init
loop-i-init c = filled_none _

pub loop-i-preserved : goal.loop-i-preserved
loop-i-preserved c =
    let height = simp (to_z-of_z, c.ranges.full) at c.grid_height.ensures.value in
    let filled = simp (to_z-of_z, c.ranges.full) at c.loop-i.invariant in
    simp (to_z-of_z, c.ranges.full, fits64 (within_between c.grid_height.ensures.range) tt) (filled_more _ _ c.loop-i.i _ (omega arith) filled height)

pub returns : goal.returns
returns c = filled_all _ _ c.loop-i.i (omega arith) (simp (to_z-of_z, c.ranges.full) at c.loop-i.invariant)
