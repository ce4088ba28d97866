use Rattle.inp_owners.proofs.OwnerLemmas.{owned_faults_in}
use Rattle.inp_owners.proofs.laws.owned_faults_are_of_lines.Goals as goal

pub returns : goal.returns
returns g c = λ known kind forms. owned_faults_in known kind forms
