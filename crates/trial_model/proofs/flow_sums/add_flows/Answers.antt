use Rattle.std.proofs.Common.{◌≡◌, ◌^◌, ◌<◌, length, ap, ◌∙◌, arith}
use Rattle.std.proofs.lemmas.List.{length-replicate}
use Rattle.std.specs.Prelude.{pos}
use Rattle.fixed_num.specs.Lists.{number}
use Rattle.trial_model.specs.Parts.{in_part, out_part}
use Rattle.trial_model.specs.Trial.{inflow_of, outflow_of}
use Rattle.trial_model.proofs.FlowLemmas.{flow_share, flow_shares_fit}
use Rattle.trial_model.proofs.SumLemmas.{in_parts, out_parts}
use Rattle.trial_model.proofs.RangeLemmas.{in_most, out_most, sums_room, sums_done}
use Rattle.trial_model.proofs.flow_sums.add_flows.Goals as goal

pub add_flow-requires-clause-inflows : goal.add_flow-requires-clause-inflows
add_flow-requires-clause-inflows g c =
    let law = g.P.PhaseLaw.law c.args.law.now in
    let good = g.met.P.PhaseLaw.good c.args.law.now in
    let share = flow_share c.args.flows.now in
    let within : c.loop-link.link < law.links = omega (arith, c.loop-link-test.true, c.links-link-end.ensures) in
    sums_room {part = λ k. in_part (law.ends k) (share k)} c.loop-link.invariant.inflows (10 ^ 12) (10 ^ 18) (omega (arith, good.few_links))
    (λ k n h. in_most good (flow_shares_fit c.requires.flows) k n (omega arith))
    (omega arith)

pub add_flow-requires-clause-outflows : goal.add_flow-requires-clause-outflows
add_flow-requires-clause-outflows g c =
    let law = g.P.PhaseLaw.law c.args.law.now in
    let good = g.met.P.PhaseLaw.good c.args.law.now in
    let share = flow_share c.args.flows.now in
    let within : c.loop-link.link < law.links = omega (arith, c.loop-link-test.true, c.links-link-end.ensures) in
    sums_room {part = λ k. out_part (law.ends k) (share k)} c.loop-link.invariant.outflows (10 ^ 12) (10 ^ 18) (omega (arith, good.few_links))
    (λ k n h. out_most good (flow_shares_fit c.requires.flows) k n (omega arith))
    (omega arith)

pub returns-clause-inflows : goal.returns-clause-inflows
returns-clause-inflows g c =
    let law = g.P.PhaseLaw.law c.args.law.now in
    let all : c.loop-link.link ≡ law.links =
    omega (arith, c.links-link-end.ensures, c.loop-link-test.false, c.loop-link.auto.link-end) in
    sums_done c.loop-link.invariant.inflows (inflow_of law (number c.args.flows.now)) law.links law.nodes all
    (c.loop-link.auto.inflows ∙ ap length c.requires.inflows ∙ length-replicate law.nodes (pos 0))
    (in_parts law (flow_share c.args.flows.now))

pub returns-clause-outflows : goal.returns-clause-outflows
returns-clause-outflows g c =
    let law = g.P.PhaseLaw.law c.args.law.now in
    let all : c.loop-link.link ≡ law.links =
    omega (arith, c.links-link-end.ensures, c.loop-link-test.false, c.loop-link.auto.link-end) in
    sums_done c.loop-link.invariant.outflows (outflow_of law (number c.args.flows.now)) law.links law.nodes all
    (c.loop-link.auto.outflows ∙ ap length c.requires.outflows ∙ length-replicate law.nodes (pos 0))
    (out_parts law (flow_share c.args.flows.now))
