use Rattle.inp_sections.proofs.SoundLemmas.{sections_sound}
use Rattle.inp_sections.proofs.laws.sections_are_sound.Goals as goal

pub returns : goal.returns
returns c = sections_sound
