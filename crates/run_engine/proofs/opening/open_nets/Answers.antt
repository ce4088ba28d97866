use Rattle.std.proofs.Common.{rules, length, ap, ◌∙◌, FitsSigned, w64}
use Rattle.std.proofs.lemmas.Int.{to_z-of_z}
use Rattle.trial_model.specs.declared.nets.Nets.{Nets}
use Rattle.trial_model.proofs.TrialLemmas.{written_whole}
use Rattle.run_engine.proofs.OpeningLemmas.{flows_at, heads_length, nodes_at, opened_inflows, opened_outflows, opened_with, opening_flows_fit}
use Rattle.run_engine.proofs.opening.open_nets.Goals as goal

pub sum_flows-requires-clause-flows : goal.sum_flows-requires-clause-flows
sum_flows-requires-clause-flows c =
    flows_at c.requires.law
    (written_whole _ _ (c.open_flows.auto.flows ∙ ap length c.as_mut_slice.ensures.value) ∙ c.open_flows.ensures)
    (opening_flows_fit c.args.start.now c.requires.project c.requires.hot)

pub sum_flows-requires-clause-inflows : goal.sum_flows-requires-clause-inflows
sum_flows-requires-clause-inflows c = nodes_at c.args.start.now c.requires.law (ap (λ (t : Nets). t.inflows) c.requires.nets)

pub sum_flows-requires-clause-outflows : goal.sum_flows-requires-clause-outflows
sum_flows-requires-clause-outflows c = nodes_at c.args.start.now c.requires.law (ap (λ (t : Nets). t.outflows) c.requires.nets)

pub open_heads-requires-clause-nodes : goal.open_heads-requires-clause-nodes
open_heads-requires-clause-nodes c =
    c.as_slice-nodes.ensures ∙ ap (λ (t : Nets). t.nodes) c.sum_flows.ensures.nets
    ∙ written_whole _ _ (c.open_nodes.auto.fixed ∙ ap length c.as_mut_slice-3.ensures.value) ∙ c.open_nodes.ensures

pub open_heads-requires-clause-inflows : goal.open_heads-requires-clause-inflows
open_heads-requires-clause-inflows c =
    c.as_slice-inflows.ensures ∙ ap (λ (t : Nets). t.inflows) c.sum_flows.ensures.nets
    ∙ opened_inflows c.args.start.now c.requires.law (written_whole _ _ (c.open_flows.auto.flows ∙ ap length c.as_mut_slice.ensures.value) ∙ c.open_flows.ensures)

pub open_heads-requires-clause-outflows : goal.open_heads-requires-clause-outflows
open_heads-requires-clause-outflows c =
    c.as_slice-outflows.ensures ∙ ap (λ (t : Nets). t.outflows) c.sum_flows.ensures.nets
    ∙ opened_outflows c.args.start.now c.requires.law (written_whole _ _ (c.open_flows.auto.flows ∙ ap length c.as_mut_slice.ensures.value) ∙ c.open_flows.ensures)

pub open_heads-requires-clause-heads : goal.open_heads-requires-clause-heads
open_heads-requires-clause-heads c =
    ap length c.as_mut_slice-4.ensures.value ∙ ap (λ (t : Nets). length t.heads) c.sum_flows.ensures.nets ∙ heads_length c.args.start.now c.requires.nets

pub returns : goal.returns
returns c =
    let least : FitsSigned w64 c.open_least-nets.result = search rules in
    opened_with c.args.start.now c.args.nets.now _ c.requires.law c.requires.nets
    (written_whole _ _ (c.open_heads.auto.heads ∙ ap length c.as_mut_slice-4.ensures.value) ∙ c.open_heads.ensures)
    (written_whole _ _ (c.open_flows.auto.flows ∙ ap length c.as_mut_slice.ensures.value) ∙ c.open_flows.ensures)
    (written_whole _ _ (c.open_links.auto.fixed ∙ ap length c.as_mut_slice-2.ensures.value) ∙ c.open_links.ensures)
    (written_whole _ _ (c.open_nodes.auto.fixed ∙ ap length c.as_mut_slice-3.ensures.value) ∙ c.open_nodes.ensures)
    c.sum_flows.ensures.nets (to_z-of_z w64 _ least ∙ c.open_least-nets.ensures)
