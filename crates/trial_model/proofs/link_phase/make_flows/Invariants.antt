use Rattle.std.proofs.Common.{◌≡◌, pos}
use Rattle.fixed_num.specs.Sums.{least_below}
use Rattle.trial_model.specs.Trial.{share_of}
use Rattle.trial_model.specs.Parts.{in_part, out_part, area_part}
use Rattle.trial_model.proofs.LoopLemmas.{FlowsMade, SumsMade}
use Rattle.trial_model.proofs.link_phase.make_flows.Given as goal

abbrev pub invariant-loop-link : goal.invariant-loop-link
invariant-loop-link g l =
    let law = g.P.PhaseLaw.law l.law in
    let share = share_of law l.links l.heads l.initial.flows l.first in
    record {
      flows : FlowsMade share l.initial.flows l.flows l.link;
      inflows : SumsMade (λ k. in_part (law.ends k) (share k)) l.inflows l.link;
      outflows : SumsMade (λ k. out_part (law.ends k) (share k)) l.outflows l.link;
      areas : SumsMade (λ k. area_part (law.ends k) (share k)) l.areas l.link;
      least : l.least ≡ least_below (pos 3_600_000) (λ k. (share k).time) l.link;
    }
