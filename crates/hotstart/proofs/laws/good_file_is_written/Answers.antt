use Rattle.hotstart.proofs.FileLemmas.{new_spells, old_spells}
use Rattle.hotstart.proofs.laws.good_file_is_written.Goals as goal

pub returns : goal.returns
returns c = record { new = new_spells; old = old_spells }
