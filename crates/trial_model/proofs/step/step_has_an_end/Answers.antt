use Rattle.trial_model.proofs.StepLemmas.{is_end}
use Rattle.trial_model.proofs.step.step_has_an_end.Goals as goal

pub returns : goal.returns
returns c = is_end
