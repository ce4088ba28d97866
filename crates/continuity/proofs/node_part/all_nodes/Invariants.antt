use Rattle.continuity.specs.Parts.{node_part}
use Rattle.continuity.proofs.TotalLemmas.{Summed}
use Rattle.continuity.proofs.node_part.all_nodes.Given as goal

abbrev pub invariant-loop-node : goal.invariant-loop-node
invariant-loop-node l = Summed (node_part l.law.hydraulics l.before l.after l.ms) l.node l.total
