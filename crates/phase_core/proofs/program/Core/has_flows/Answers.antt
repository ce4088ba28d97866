use Rattle.phase_core.proofs.AfterLemmas.{flows_done}
use Rattle.phase_core.proofs.program.Core.has_flows.Goals as goal

pub returns-clause-done : goal.returns-clause-done
returns-clause-done g c = λ on.
    rw (← c.self.view_is)
    (flows_done (g.P.PhaseLaw.law c.self.inside.law) c.self.inside.state c.self.invariant (c.flows_are_done.ensures.0 on))
