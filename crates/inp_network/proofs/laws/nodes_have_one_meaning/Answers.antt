use Rattle.inp_forms.proofs.FormLemmas.{forms_mean, forms_mean_one}
use Rattle.inp_network.specs.Nodes.{node_forms, nodes_of}
use Rattle.inp_network.proofs.laws.nodes_have_one_meaning.Goals as goal

pub returns : goal.returns
unfolding nodes_of
returns c = record {
  meant = λ known lines none. forms_mean known node_forms lines none;
  one = λ known lines a b p q. forms_mean_one known node_forms lines a b p q;
}
