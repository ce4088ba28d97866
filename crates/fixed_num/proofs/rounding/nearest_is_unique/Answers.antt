use Rattle.fixed_num.proofs.RoundingLemmas.{IsNearest-unique}
use Rattle.fixed_num.proofs.rounding.nearest_is_unique.Goals as goal

pub returns : goal.returns
returns c = IsNearest-unique
