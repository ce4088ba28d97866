use Rattle.fixed_num.proofs.DecimalLemmas.{IsStored-unique}
use Rattle.fixed_num.proofs.decimal.stored_is_unique.Goals as goal

pub returns : goal.returns
returns c = IsStored-unique
