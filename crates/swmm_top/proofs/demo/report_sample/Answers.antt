-- What the run came to, or nothing.
use Rattle.std.proofs.Common.{◌∙◌}
use Rattle.swmm_top.proofs.LeavesLemmas.{leaves_no_memory, leaves_sample}
use Rattle.swmm_top.proofs.demo.report_sample.Goals as goal

pub returns-in-Ok-clause-outcome : goal.returns-in-Ok-clause-outcome
returns-in-Ok-clause-outcome g c = λ hot.
    leaves_sample _ _ _ _ _ _ _ hot _ _ c.in-Ok.ensures.start (c.total-total.ensures.value ∙ c.in-Ok.ensures.at.total) (c.counts-counts.ensures ∙ c.in-Ok.ensures.at.counts)
    c.put_demo.ensures.bytes c.ended.ensures.done c.ended.ensures.failed

pub returns-in-Err-clause-outcome : goal.returns-in-Err-clause-outcome
returns-in-Err-clause-outcome g c = λ hot. leaves_no_memory _ _ hot
