use Rattle.std.proofs.Common.{length, ap, ◌∙◌}
use Rattle.trial_model.proofs.FlowLemmas.{summed}
use Rattle.trial_model.proofs.TrialLemmas.{written_whole}
use Rattle.trial_model.proofs.flow_sums.sum_flows.Goals as goal

pub returns : goal.returns
returns g c =
    let law = g.P.PhaseLaw.law c.args.law.now in
    let made = simp (c.as_slice-flows.ensures) at c.add_flows.ensures in
    record {
      nets = summed c.args.nets.now
          (written_whole _ _ (c.add_flows.auto.inflows ∙ ap length c.as_mut_slice-inflows.ensures.value) ∙ made.inflows)
          (written_whole _ _ (c.add_flows.auto.outflows ∙ ap length c.as_mut_slice-outflows.ensures.value) ∙ made.outflows);
    }
