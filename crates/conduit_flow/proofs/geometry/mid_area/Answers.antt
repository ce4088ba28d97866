use Rattle.std.proofs.lemmas.Int.{to_z-of_z}
use Rattle.fixed_num.proofs.Bounds.{within_between, fits64}
use Rattle.conduit_flow.specs.Geometry.{IsFlowArea}
use Rattle.conduit_flow.proofs.RangeLemmas.{flow_area-between}
use Rattle.conduit_flow.proofs.geometry.mid_area.Goals as goal

pub returns-clause-range : goal.returns-clause-range
returns-clause-range c =
    let depth = fits64 (within_between c.mean_depth.ensures.range) tt in
    let value = simp (to_z-of_z, depth) at c.area.ensures.value in
    let range : IsFlowArea c.area.result = rw value (flow_area-between c.requires.table c.mean_depth.ensures.range) in
    simp (to_z-of_z, fits64 (within_between range) tt) range
