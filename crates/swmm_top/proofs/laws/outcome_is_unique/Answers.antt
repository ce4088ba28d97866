-- By cases on the command.
use Rattle.swmm_top.proofs.OutcomeLemmas.{outcome_one}
use Rattle.swmm_top.proofs.laws.outcome_is_unique.Goals as goal

pub returns : goal.returns
returns c = outcome_one
