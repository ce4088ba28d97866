use Rattle.inp_inflows.proofs.CountedLemmas.{faults_counted}
use Rattle.inp_inflows.proofs.laws.counted_faults_are_of_lines.Goals as goal

pub returns : goal.returns
returns g c = λ known form. faults_counted form known
