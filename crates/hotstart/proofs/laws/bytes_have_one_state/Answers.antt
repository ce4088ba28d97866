use Rattle.hotstart.proofs.EqualLemmas.{states_same}
use Rattle.hotstart.proofs.laws.bytes_have_one_state.Goals as goal

pub returns : goal.returns
returns c = states_same
