use Rattle.runoff_states.proofs.BalanceLemmas.{step_closed}
use Rattle.runoff_states.proofs.laws.runoff_loses_no_water.Goals as goal

pub returns : goal.returns
returns c = step_closed
