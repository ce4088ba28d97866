use Rattle.std.proofs.Common.{◌≡◌, replicate}
use Rattle.summaries.specs.Steps.{no_node_summary}
use Rattle.summaries.proofs.node_summary.new_nodes.Given as goal

abbrev pub invariant-loop : goal.invariant-loop
invariant-loop l = l.list ≡ replicate l.counter no_node_summary
