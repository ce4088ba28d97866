use Rattle.std.proofs.Common.{ℕ, ◌<◌, arith, ap, length, sym, subst}
use Rattle.std.proofs.lemmas.Int.{to_z-of_z}
use Rattle.fixed_num.proofs.Bounds.{within_add, fits128}
use Rattle.net_types.specs.declared.inflows.DryFlow.{DryFlow}
use Rattle.time_series.specs.Inflows.{dry_at}
use Rattle.time_series.proofs.WalkLemmas.{AddsAt, dry_adds, dry_inside, place_fits, walked_through, walked_more}
use Rattle.time_series.proofs.walk.add_dry_flows.Goals as goal

pub loop-dry-preserved : goal.loop-dry-preserved
loop-dry-preserved c =
    let project = c.args.project.now in
    let items = c.as_slice-dry-items.result.now in
    let k = c.loop-dry.dry-index in
    let line = c.dry-item.result in
    let flow = c.dry_flow-flow.ensures.range in
    let adds = dry_adds project c.args.at.now line c.dry_flow-flow.result c.dry_flow-flow.ensures.value flow in
    let adds_there = subst (λ (x : DryFlow). AddsAt (λ n. dry_at project c.args.at.now n) x line.node
    c.dry_flow-flow.result) c.dry-item.is adds in
    let there = dry_inside project items c.args.flows.now k line c.as_slice-dry-items.ensures c.loop-dry-test.true
    c.requires.sound.names.dry c.requires.places in
    let inside = subst (λ (x : DryFlow). x.node < length c.args.flows.now) (sym c.dry-item.is) there in
    let place = place_fits c.loop-dry.invariant line.node inside (omega arith)
    (omega (arith, ap length c.as_slice-dry-items.ensures, c.requires.sound.few.dry)) in
    simp (to_z-of_z, fits128 flow tt, fits128 place tt, fits128 (within_add place flow) tt)
    (walked_more c.loop-dry.invariant line line.node c.dry_flow-flow.result c.loop-dry-test.true adds_there inside)

pub returns : goal.returns
returns c = walked_through c.loop-dry.invariant c.loop-dry-test.false c.as_slice-dry-items.ensures
