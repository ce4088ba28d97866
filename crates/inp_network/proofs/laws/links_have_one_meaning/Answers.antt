use Rattle.inp_forms.proofs.FormLemmas.{forms_mean, forms_mean_one}
use Rattle.inp_network.specs.Links.{link_forms, links_of}
use Rattle.inp_network.proofs.laws.links_have_one_meaning.Goals as goal

pub returns : goal.returns
unfolding links_of
returns c = record {
  meant = λ known lines none. forms_mean known link_forms lines none;
  one = λ known lines a b p q. forms_mean_one known link_forms lines a b p q;
}
