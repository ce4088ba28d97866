use Rattle.trial_model.specs.Parts.{in_part, out_part}
use Rattle.trial_model.proofs.FlowLemmas.{flow_share}
use Rattle.trial_model.proofs.LoopLemmas.{SumsMade}
use Rattle.trial_model.proofs.flow_sums.add_flows.Given as goal

abbrev pub invariant-loop-link : goal.invariant-loop-link
invariant-loop-link g l =
    let law = g.P.PhaseLaw.law l.law in
    record {
      inflows : SumsMade (λ k. in_part (law.ends k) (flow_share l.flows k)) l.inflows l.link;
      outflows : SumsMade (λ k. out_part (law.ends k) (flow_share l.flows k)) l.outflows l.link;
    }
