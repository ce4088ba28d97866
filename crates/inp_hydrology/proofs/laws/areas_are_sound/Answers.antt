use Rattle.inp_hydrology.proofs.SoundLemmas.{areas_sound}
use Rattle.inp_hydrology.proofs.laws.areas_are_sound.Goals as goal

pub returns : goal.returns
returns c = areas_sound
