use Rattle.node_update.proofs.UpdateLemmas.{next_place}
use Rattle.node_update.proofs.laws.stays_below_its_top.Goals as goal

pub returns : goal.returns
returns c law fixed first inflow outflow area last l e h = next_place fixed first inflow outflow area last l e h
