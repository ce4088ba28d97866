use Rattle.inp_reader.proofs.MeaningLemmas.{means_unique}
use Rattle.inp_reader.proofs.laws.lines_have_one_meaning.Goals as goal

pub returns : goal.returns
returns c = means_unique
