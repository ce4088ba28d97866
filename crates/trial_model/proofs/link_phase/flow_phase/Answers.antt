use Rattle.std.proofs.Common.{rules, length, FitsSigned, w64, ap, ◌∙◌}
use Rattle.std.proofs.lemmas.Int.{to_z-of_z}
use Rattle.trial_model.proofs.TrialLemmas.{written_whole, with_flows_is}
use Rattle.trial_model.proofs.link_phase.flow_phase.Goals as goal

pub returns : goal.returns
returns g c =
    let law = g.P.PhaseLaw.law c.args.law.now in
    let made =
    simp (c.as_slice-links.ensures, c.as_slice-heads.ensures, c.copy.ensures, c.as_mut_slice-flows.ensures.value)
    at c.make_flows-nets.ensures in
    let fits : FitsSigned w64 c.make_flows-nets.result = search rules in
    with_flows_is law c.args.nets.now c.args.first
    (written_whole _ _ (c.make_flows-nets.auto.flows ∙ ap length c.as_mut_slice-flows.ensures.value) ∙ made.flows)
    (written_whole _ _ (c.make_flows-nets.auto.inflows ∙ ap length c.as_mut_slice-inflows.ensures.value) ∙ made.inflows)
    (written_whole _ _ (c.make_flows-nets.auto.outflows ∙ ap length c.as_mut_slice-outflows.ensures.value) ∙ made.outflows)
    (written_whole _ _ (c.make_flows-nets.auto.areas ∙ ap length c.as_mut_slice-areas.ensures.value) ∙ made.areas)
    c.copy.ensures
    (to_z-of_z w64 _ fits ∙ made.least)
