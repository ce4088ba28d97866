use Rattle.hotstart.proofs.BackLemmas.{kept_back}
use Rattle.hotstart.proofs.KeptLemmas.{written_back}
use Rattle.hotstart.proofs.laws.written_is_read_back.Goals as goal

pub returns : goal.returns
returns c = record { kept = kept_back; all = written_back }
