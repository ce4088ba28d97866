use Rattle.inp_inflows.proofs.SoundLemmas.{inflows_sound}
use Rattle.inp_inflows.proofs.laws.inflows_are_sound.Goals as goal

pub returns : goal.returns
returns c = inflows_sound
