use Rattle.inp_hydrology.proofs.SoundLemmas.{subs_sound}
use Rattle.inp_hydrology.proofs.laws.subs_are_sound.Goals as goal

pub returns : goal.returns
returns c = subs_sound
