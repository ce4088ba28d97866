use Rattle.inp_sections.proofs.SoundLemmas.{losses_sound}
use Rattle.inp_sections.proofs.laws.losses_are_sound.Goals as goal

pub returns : goal.returns
returns c = losses_sound
