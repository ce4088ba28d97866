-- Nothing was put before the hotstart was read.
use Rattle.swmm_top.proofs.LeavesLemmas.{all_told, leaves_nothing, not_read}
use Rattle.swmm_top.proofs.run.resume.Goals as goal

pub returns-in-Err-clause-outcome : goal.returns-in-Err-clause-outcome
returns-in-Err-clause-outcome g c = all_told _ _ (λ hotstart. leaves_nothing _ _ _ _ (not_read _ c.in-Err.ensures.faults))
