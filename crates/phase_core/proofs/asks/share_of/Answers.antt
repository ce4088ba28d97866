use Rattle.phase_core.proofs.ReadyLemmas.{share_in_range}
use Rattle.phase_core.proofs.asks.share_of.Goals as goal

pub returns-clause-range : goal.returns-clause-range
returns-clause-range g c =
    share_in_range (g.P.PhaseLaw.law c.args.law.now) c.args.seat.now c.ask_share.result c.requires.good c.requires.asks c.ask_share.ensures
