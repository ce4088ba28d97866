use Rattle.report_port.proofs.StandLemmas.{goes_on}
use Rattle.report_port.proofs.report.add_parts.Goals as goal

pub returns-clause-stands : goal.returns-clause-stands
returns-clause-stands g c before faults so_far =
    rw (c.is_err.ensures.value, c.add.ensures) (goes_on _ _ _ _ _ _ _ _ _ _ _ (so_far.goes c.if-failed.false) c.pass.ensures.bytes c.pass.ensures.cause)
