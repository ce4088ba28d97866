use Rattle.hotstart.proofs.CheckLemmas.{passes_then, fault_stays}
use Rattle.hotstart.proofs.checks.check_head.Goals as goal

pub returns-in-Ok : goal.returns-in-Ok
returns-in-Ok c = passes_then _ _ _ _ _ c.check_counts.result c.in-Ok.ensures c.check_counts.ensures

pub returns-in-Err : goal.returns-in-Err
returns-in-Err c = fault_stays c.in-Err.ensures _
