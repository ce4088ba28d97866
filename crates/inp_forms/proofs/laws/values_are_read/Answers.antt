use Rattle.inp_forms.proofs.ItemLemmas.{values_read}
use Rattle.inp_forms.proofs.laws.values_are_read.Goals as goal

pub returns : goal.returns
returns c = values_read
