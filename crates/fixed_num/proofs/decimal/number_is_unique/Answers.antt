use Rattle.fixed_num.proofs.NumberLemmas.{IsNumber-unique}
use Rattle.fixed_num.proofs.decimal.number_is_unique.Goals as goal

pub returns : goal.returns
returns c = λ text b d m n e f. IsNumber-unique
