use Rattle.inp_hydrology.proofs.SoundLemmas.{soil_sound}
use Rattle.inp_hydrology.proofs.laws.soil_is_sound.Goals as goal

pub returns : goal.returns
returns c = soil_sound
