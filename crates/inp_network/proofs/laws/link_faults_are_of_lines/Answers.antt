use Rattle.inp_forms.proofs.FormLemmas.{form_faults_in}
use Rattle.inp_network.specs.Links.{link_forms}
use Rattle.inp_network.proofs.laws.link_faults_are_of_lines.Goals as goal

pub returns : goal.returns
returns c = λ known. form_faults_in known link_forms
