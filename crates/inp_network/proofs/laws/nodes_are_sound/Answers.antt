use Rattle.inp_network.proofs.NodesLemmas.{nodes_sound}
use Rattle.inp_network.proofs.laws.nodes_are_sound.Goals as goal

pub returns : goal.returns
returns c = nodes_sound
