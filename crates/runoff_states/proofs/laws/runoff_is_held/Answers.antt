use Rattle.runoff_states.proofs.TimeLemmas.{held, one_count}
use Rattle.runoff_states.proofs.laws.runoff_is_held.Goals as goal

pub returns : goal.returns
returns c = record { held = held; one = one_count }
