use Rattle.std.proofs.Common.{FitsSigned, rules}
use Rattle.std.specs.Int.{w64, w128}
use Rattle.std.proofs.lemmas.Int.{to_z-of_z}
use Rattle.xsect_tables.specs.NormalFlow.{normal_flow_of}
use Rattle.xsect_tables.proofs.table.Table.normal_flow.Goals as goal

pub returns-clause-value : goal.returns-clause-value
unfolding normal_flow_of
returns-clause-value c =
    let slope : FitsSigned w64 c.slope.result = search rules in
    let result : FitsSigned w128 c.uniform.result = search rules in
    let s = simp (to_z-of_z, c.ranges.drop, c.ranges.length) at c.slope.ensures.value in
    let u = simp (to_z-of_z, c.ranges.y, c.ranges.n6, slope) at c.uniform.ensures.value in
    simp (to_z-of_z, result) (cc (s, u))
