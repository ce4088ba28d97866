use Rattle.report_port.proofs.StandLemmas.{flushed}
use Rattle.report_port.proofs.report.flush_parts.Goals as goal

pub returns-clause-stands : goal.returns-clause-stands
returns-clause-stands g c before faults text so_far =
    rw c.is_err.ensures.value (flushed _ _ _ _ _ _ _ _ _ _ (so_far.goes c.if-failed.false) c.put_page.ensures.bytes c.put_page.ensures.cause)
