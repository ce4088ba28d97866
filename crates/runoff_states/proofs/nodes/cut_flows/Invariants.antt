use Rattle.std.proofs.Common.{◌≡◌, ℕ, ◌<◌, ◌≤◌, pos, neg_ℤ, ◌^◌}
use Rattle.fixed_num.specs.Lists.{number}
use Rattle.fixed_num.specs.Ranges.{cut_of}
use Rattle.runoff_states.proofs.nodes.cut_flows.Given as goal

abbrev pub invariant-loop-flow : goal.invariant-loop-flow
invariant-loop-flow l = record {
  made : (n : ℕ) → n < l.flow-index → number l.flows n ≡ cut_of (number l.initial.flows n) (neg_ℤ (pos (10 ^ 12)))
      (pos (10 ^ 12));
  left : (n : ℕ) → l.flow-index ≤ n → number l.flows n ≡ number l.initial.flows n;
}
