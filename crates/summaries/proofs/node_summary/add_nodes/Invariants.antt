use Rattle.std.proofs.Common.{◌-ℤ◌}
use Rattle.fixed_num.specs.Lists.{number}
use Rattle.summaries.specs.Steps.{no_node_summary, node_summary_at, with_node}
use Rattle.summaries.proofs.RowLemmas.{Rewritten}
use Rattle.summaries.proofs.node_summary.add_nodes.Given as goal

abbrev pub invariant-loop-n : goal.invariant-loop-n
invariant-loop-n l = Rewritten no_node_summary (λ k. with_node l.first (node_summary_at l.fn.nodes k) (number l.heads k -ℤ number l.inverts k) (number l.heads k) (number l.floods k) l.moment) l.fn.nodes l.nodes l.n
