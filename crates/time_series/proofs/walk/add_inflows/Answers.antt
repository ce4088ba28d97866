use Rattle.std.proofs.Common.{◌≤◌, arith, ap, length, get_or}
use Rattle.std.proofs.lemmas.Int.{to_z-of_z}
use Rattle.fixed_num.proofs.Bounds.{within_add, fits128}
use Rattle.time_series.proofs.WalkLemmas.{inflow_adds, inflow_inside, no_inflow, place_fits, walked_through}
use Rattle.time_series.proofs.WalkLemmas.{walked_more}
use Rattle.time_series.proofs.walk.add_inflows.Goals as goal

pub loop-inflow-preserved : goal.loop-inflow-preserved
loop-inflow-preserved c =
    let items = c.as_slice-inflow-items.result.now in
    let k = c.loop-inflow.inflow-index in
    let flow = c.inflow_flow-flow.ensures.range in
    let line = get_or items k no_inflow in
    let adds = inflow_adds c.args.project.now _ c.args.at.now line c.inflow_flow-flow.result
    c.inflow_flow-flow.ensures.value flow in
    let inside = inflow_inside c.args.project.now items c.args.flows.now k no_inflow c.as_slice-inflow-items.ensures
    c.loop-inflow-test.true c.requires.sound.names.inflows c.requires.places in
    let few : k ≤ 20_000 = omega (arith, ap length c.as_slice-inflow-items.ensures, c.requires.sound.few.inflows) in
    let place = place_fits c.loop-inflow.invariant line.node inside (omega arith) few in
    simp (to_z-of_z, fits128 flow tt, fits128 place tt, fits128 (within_add place flow) tt)
    (walked_more c.loop-inflow.invariant no_inflow line.node c.inflow_flow-flow.result c.loop-inflow-test.true adds
    inside)

pub returns-clause-sums : goal.returns-clause-sums
returns-clause-sums c =
    simp (to_z-of_z, c.ranges.moment) at (walked_through c.loop-inflow.invariant c.loop-inflow-test.false
    c.as_slice-inflow-items.ensures)
