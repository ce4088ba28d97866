use Rattle.std.proofs.Common.{FitsSigned, rules}
use Rattle.std.specs.Int.{w64, w128}
use Rattle.std.proofs.lemmas.Int.{to_z-of_z}
use Rattle.xsect_tables.specs.NormalFlow.{uniform_of}
use Rattle.xsect_tables.proofs.table.Table.uniform.Goals as goal

pub returns-clause-value : goal.returns-clause-value
unfolding uniform_of
returns-clause-value c =
    let area : FitsSigned w64 c.area_at-area.result = search rules in
    let radius : FitsSigned w64 c.radius_at.result = search rules in
    let speed : FitsSigned w64 c.speed-speed.result = search rules in
    let result : FitsSigned w128 c.discharge.result = search rules in
    let a = simp (to_z-of_z, c.ranges.y) at c.area_at-area.ensures.value in
    let r = simp (to_z-of_z, c.ranges.y) at c.radius_at.ensures.value in
    let s = simp (to_z-of_z, radius, c.ranges.slope6, c.ranges.n6) at c.speed-speed.ensures.value in
    let d = simp (to_z-of_z, speed, area) at c.discharge.ensures.value in
    simp (to_z-of_z, result) (cc (r, s, a, d))
