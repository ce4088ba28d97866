use Rattle.trial_model.proofs.StepLemmas.{end_unique}
use Rattle.trial_model.proofs.step.end_is_unique.Goals as goal

pub returns : goal.returns
returns c = end_unique
