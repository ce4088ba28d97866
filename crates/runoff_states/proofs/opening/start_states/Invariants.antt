use Rattle.runoff_states.proofs.OpenLemmas.{Started}
use Rattle.runoff_states.proofs.opening.start_states.Given as goal

abbrev pub invariant-loop-sub : goal.invariant-loop-sub
invariant-loop-sub l = Started l.project l.states l.sub-index
