use Rattle.inp_hydrology.proofs.SoundLemmas.{gages_sound}
use Rattle.inp_hydrology.proofs.laws.gages_are_sound.Goals as goal

pub returns : goal.returns
returns c = gages_sound
