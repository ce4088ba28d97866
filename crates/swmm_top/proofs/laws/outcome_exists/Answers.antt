-- By the length of the input, and by the faults of its lines.
use Rattle.swmm_top.proofs.OutcomeLemmas.{outcome_some}
use Rattle.swmm_top.proofs.laws.outcome_exists.Goals as goal

pub returns : goal.returns
returns c = outcome_some
