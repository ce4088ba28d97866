-- The figures, and then the hotstart.
use Rattle.std.proofs.Common.{◌∙◌}
use Rattle.swmm_top.proofs.LeavesLemmas.{leaves_hotstart}
use Rattle.swmm_top.proofs.run.report_run.Goals as goal

pub returns-in-Ok-clause-outcome : goal.returns-in-Ok-clause-outcome
returns-in-Ok-clause-outcome g c =
    leaves_hotstart _ _ _ _ _ _ _ c.in-Ok.ensures.bytes c.keep_state.ensures.status (rw (c.hot_state.ensures ∙ c.requires.last) at c.keep_state.ensures.hotstart)
