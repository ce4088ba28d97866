use Rattle.phase_core.proofs.AfterLemmas.{ready_after}
use Rattle.phase_core.proofs.program.make_if.Goals as goal

pub returns-then-can-clause-ready : goal.returns-then-can-clause-ready
returns-then-can-clause-ready g c =
    rw c.make.ensures
    (ready_after (g.P.PhaseLaw.law c.args.law.now) c.args.state.now c.args.event c.requires.ready (c.can_make-can.ensures.0 c.if-can.true))
