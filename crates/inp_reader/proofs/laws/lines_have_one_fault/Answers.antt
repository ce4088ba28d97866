use Rattle.inp_reader.proofs.FaultLemmas.{line_has_one}
use Rattle.inp_reader.proofs.laws.lines_have_one_fault.Goals as goal

pub returns : goal.returns
returns c = line_has_one
