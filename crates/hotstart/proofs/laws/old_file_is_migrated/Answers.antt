use Rattle.hotstart.proofs.OldLemmas.{old_back}
use Rattle.hotstart.proofs.laws.old_file_is_migrated.Goals as goal

pub returns : goal.returns
returns c = old_back
