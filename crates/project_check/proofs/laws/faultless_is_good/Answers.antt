use Rattle.project_check.proofs.LawLemmas.{faultless_good, good_faultless}
use Rattle.project_check.proofs.laws.faultless_is_good.Goals as goal

pub returns-clause-good : goal.returns-clause-good
returns-clause-good c = faultless_good

pub returns-clause-faultless : goal.returns-clause-faultless
returns-clause-faultless c = good_faultless
