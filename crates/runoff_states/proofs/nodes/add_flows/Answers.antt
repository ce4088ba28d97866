use Rattle.std.proofs.Common.{◌≡◌, ◌<◌, ◌≤◌, length, ap, arith, get_or}
use Rattle.std.proofs.lemmas.Int.{to_z-of_z}
use Rattle.fixed_num.proofs.Bounds.{within_add, within_between, fits64, fits128}
use Rattle.net_types.specs.declared.hydrology.Sub.{Sub}
use Rattle.runoff_states.specs.RunoffStates.{state_at, sub_at}
use Rattle.runoff_states.proofs.NodeLemmas.{flow_elsewhere, flow_here, outlet_inside, place_fits, walked_all, walked_more}
use Rattle.runoff_states.proofs.RunLemmas.{sub_is}
use Rattle.runoff_states.proofs.nodes.add_flows.Goals as goal

pub loop-place-preserved : goal.loop-place-preserved
loop-place-preserved c =
    let k = c.loop-place.place in
    let items = c.as_slice-subs.result.now in
    let project = c.args.project.now in
    let node = (get_or items k c.index-subs-place.result).outlet in
    let state = state_at c.args.states.now k in
    let inside : k < length project.subs =
    omega (arith, c.loop-place-test.true, ap length c.as_slice-subs.ensures) in
    let same : node ≡ (sub_at project.subs k).outlet =
    ap (λ (s : Sub). s.outlet)
    (sub_is project items k c.index-subs-place.result c.as_slice-subs.ensures c.loop-place-test.true) in
    let there = outlet_inside project k node c.requires.sound.names.subs inside same in
    let room : node < length c.args.laterals.now = omega (arith, there, c.requires.places) in
    let few : k ≤ 20_000 = omega (arith, inside, c.requires.sound.few.subs) in
    let flow = c.requires.flows k inside in
    let place = place_fits c.loop-place.invariant few node room in
    simp (
      to_z-of_z,
      fits64 (within_between flow) tt,
      fits128 (within_between flow) tt,
      fits128 place tt,
      fits128 (within_add place (within_between flow)) tt,
    )
    (walked_more c.loop-place.invariant node state.flow room (flow_here project state node k same)
    (λ n other. flow_elsewhere project state node k n same other) flow)

pub returns-clause-sums : goal.returns-clause-sums
returns-clause-sums c =
    let end : c.loop-place.place ≡ length c.args.project.now.subs =
    omega (arith, ap length c.as_slice-subs.ensures, c.loop-place-test.false, c.loop-place.auto.place-end) in
    λ n h. walked_all c.loop-place.invariant (length c.args.project.now.subs) end n (omega (arith, h, c.requires.places))
