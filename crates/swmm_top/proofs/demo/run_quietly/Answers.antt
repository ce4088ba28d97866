-- The run that was opened is that of the project; nothing is put where memory is wanting.
use Rattle.swmm_top.proofs.LeavesLemmas.{leaves_no_memory}
use Rattle.swmm_top.proofs.demo.run_quietly.Goals as goal

pub returns-in-Ok-clause-outcome : goal.returns-in-Ok-clause-outcome
returns-in-Ok-clause-outcome g c = λ hot. rw c.in-Ok.ensures.0 at (c.report_sample.ensures.outcome hot)

pub returns-in-Err-clause-outcome : goal.returns-in-Err-clause-outcome
returns-in-Err-clause-outcome g c = λ hot. leaves_no_memory _ _ hot
