use Rattle.runoff_states.specs.RunoffStates.{state_at}
use Rattle.runoff_states.specs.RunoffTimes.{flow_to}
use Rattle.runoff_states.proofs.NodeLemmas.{Walked}
use Rattle.runoff_states.proofs.nodes.add_flows.Given as goal

abbrev pub invariant-loop-place : goal.invariant-loop-place
invariant-loop-place l = Walked (λ n k. flow_to l.project n (state_at l.states k) k) l.initial.laterals l.laterals l.place
