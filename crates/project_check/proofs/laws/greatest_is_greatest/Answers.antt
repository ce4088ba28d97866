use Rattle.project_check.proofs.GreatestLemmas.{greatest_found}
use Rattle.project_check.proofs.laws.greatest_is_greatest.Goals as goal

pub returns : goal.returns
returns c = greatest_found
