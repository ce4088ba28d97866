use Rattle.runoff_states.proofs.OpenLemmas.{Opened}
use Rattle.runoff_states.proofs.opening.open_states.Given as goal

abbrev pub invariant-loop-place : goal.invariant-loop-place
invariant-loop-place l = Opened l.project l.initial.states l.states l.place
