use Rattle.inp_forms.proofs.FormLemmas.{form_faults_in, forms_mean, forms_mean_one}
use Rattle.inp_hydrology.specs.Subcatchments.{sub_forms, subs_of}
use Rattle.inp_hydrology.proofs.laws.subs_have_one_meaning.Goals as goal

pub returns : goal.returns
unfolding subs_of
returns c = record {
  meant = λ known lines none. forms_mean known sub_forms lines none;
  one = λ known lines a b p q. forms_mean_one known sub_forms lines a b p q;
  faults = λ known. form_faults_in known sub_forms;
}
