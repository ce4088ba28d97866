use Rattle.inp_forms.proofs.FormLemmas.{forms_mean, forms_mean_one}
use Rattle.inp_forms.proofs.laws.records_are_meant.Goals as goal

pub returns : goal.returns
returns g c = record {
  meant = λ known forms lines. forms_mean known forms lines;
  one = λ known forms lines.
      forms_mean_one known forms lines;
}
