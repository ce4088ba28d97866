use Rattle.continuity.proofs.NodeLemmas.{FloodsMade}
use Rattle.continuity.proofs.floods.find_floods.Given as goal

abbrev pub invariant-loop-node : goal.invariant-loop-node
invariant-loop-node l = FloodsMade l.law.hydraulics l.after l.floods l.node
