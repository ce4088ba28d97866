-- The subcatchments before this place have made their step, and the others have not.
use Rattle.runoff_states.proofs.RunLemmas.{Stepped}
use Rattle.runoff_states.proofs.all.step_all.Given as goal

abbrev pub invariant-loop-place : goal.invariant-loop-place
invariant-loop-place l = Stepped l.project l.moment l.initial.states l.states l.steps l.place
