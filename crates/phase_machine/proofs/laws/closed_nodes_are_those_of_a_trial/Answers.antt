use Rattle.phase_machine.proofs.Trials.{nodes_of_events}
use Rattle.phase_machine.proofs.laws.closed_nodes_are_those_of_a_trial.Goals as goal

pub returns : goal.returns
returns c = λ law nets seats first es d good fits start leads. nodes_of_events law good nets fits seats first start es d leads
