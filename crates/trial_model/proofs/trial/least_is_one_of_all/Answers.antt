use Rattle.trial_model.proofs.LeastLemmas.{trial_least}
use Rattle.trial_model.proofs.trial.least_is_one_of_all.Goals as goal

pub returns : goal.returns
returns c = trial_least
