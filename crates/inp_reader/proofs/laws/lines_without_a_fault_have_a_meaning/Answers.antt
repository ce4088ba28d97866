use Rattle.inp_reader.proofs.MeaningLemmas.{means_some}
use Rattle.inp_reader.proofs.laws.lines_without_a_fault_have_a_meaning.Goals as goal

pub returns : goal.returns
returns c = means_some
