use Rattle.inp_inflows.proofs.CountedLemmas.{few_counted}
use Rattle.inp_inflows.proofs.laws.counted_are_few.Goals as goal

pub returns : goal.returns
returns g c = λ known form lines. few_counted form known lines
