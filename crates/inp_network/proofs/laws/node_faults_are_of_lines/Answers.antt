use Rattle.inp_forms.proofs.FormLemmas.{form_faults_in}
use Rattle.inp_network.specs.Nodes.{node_forms}
use Rattle.inp_network.proofs.laws.node_faults_are_of_lines.Goals as goal

pub returns : goal.returns
returns c = λ known. form_faults_in known node_forms
