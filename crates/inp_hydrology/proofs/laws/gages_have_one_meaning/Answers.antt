use Rattle.inp_forms.proofs.FormLemmas.{form_faults_in, forms_mean, forms_mean_one}
use Rattle.inp_hydrology.specs.Gages.{gage_forms, gages_of}
use Rattle.inp_hydrology.proofs.laws.gages_have_one_meaning.Goals as goal

pub returns : goal.returns
unfolding gages_of
returns c = record {
  meant = λ known lines none. forms_mean known gage_forms lines none;
  one = λ known lines a b p q. forms_mean_one known gage_forms lines a b p q;
  faults = λ known. form_faults_in known gage_forms;
}
