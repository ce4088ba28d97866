use Rattle.inp_forms.proofs.FormLemmas.{form_faults_in}
use Rattle.inp_forms.proofs.laws.faults_are_of_forms.Goals as goal

pub returns : goal.returns
returns g c = λ known forms. form_faults_in known forms
