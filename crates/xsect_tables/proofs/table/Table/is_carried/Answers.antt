use Rattle.std.proofs.Common.{FitsSigned, rules}
use Rattle.std.specs.Int.{w64, w128}
use Rattle.std.proofs.lemmas.Int.{to_z-of_z}
use Rattle.fixed_num.proofs.Bounds.{fits_wider}
use Rattle.xsect_tables.specs.NormalFlow.{is_carried as carried_at}
use Rattle.xsect_tables.proofs.table.Table.is_carried.Goals as goal

pub returns : goal.returns
unfolding carried_at
returns c =
    let height : FitsSigned w64 c.grid_height.result = search rules in
    let flow : FitsSigned w128 c.uniform.result = search rules in
    let u = simp (to_z-of_z, height, c.ranges.n6, c.ranges.slope6) at c.uniform.ensures.value in
    let h = c.grid_height.ensures.value in
    simp (to_z-of_z, c.ranges.q, fits_wider _ c.ranges.q, flow) (cc (u, h))
