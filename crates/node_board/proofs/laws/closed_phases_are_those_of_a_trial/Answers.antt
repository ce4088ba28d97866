use Rattle.node_board.proofs.TrialLemmas.{links_made, trial_made}
use Rattle.node_board.proofs.laws.closed_phases_are_those_of_a_trial.Goals as goal

pub returns-clause-links : goal.returns-clause-links
returns-clause-links c = λ law s begun first links odd is shuts. links_made law s begun first links shuts odd is

pub returns-clause-nodes : goal.returns-clause-nodes
returns-clause-nodes c = λ law s begun first links nodes odd is count shut1 shut2.
    trial_made law s begun first links nodes odd is count shut1 shut2
