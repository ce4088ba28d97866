-- The head with the step lines, and then the figures.
use Rattle.run_engine.specs.Report.{report_of}
use Rattle.swmm_top.proofs.LeavesLemmas.{leaves_after, leaves_front}
use Rattle.swmm_top.proofs.run.make_run.Goals as goal

pub returns-in-Ok-clause-outcome : goal.returns-in-Ok-clause-outcome
unfolding report_of
returns-in-Ok-clause-outcome g c =
    leaves_after _ _ _ _ _ _ _ _ _ c.in-Ok.ensures.bytes (rw c.in-Ok.ensures.start at c.report_run.ensures.outcome)

pub returns-in-Err-clause-outcome : goal.returns-in-Err-clause-outcome
unfolding report_of
returns-in-Err-clause-outcome g c = leaves_front _ _ _ _ _ _ c.in-Err.ensures.bytes
