use Rattle.inp_network.proofs.LinksLemmas.{links_sound}
use Rattle.inp_network.proofs.laws.links_are_sound.Goals as goal

pub returns : goal.returns
returns c = links_sound
