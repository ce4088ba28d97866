use Rattle.phase_machine.proofs.Trials.{links_of_events}
use Rattle.phase_machine.proofs.laws.closed_links_are_those_of_a_trial.Goals as goal

pub returns : goal.returns
returns c = λ law nets seats first es d good fits start leads. links_of_events law good nets fits seats first start es d leads
