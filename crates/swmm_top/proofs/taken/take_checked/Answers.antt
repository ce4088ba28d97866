-- Faults are reported.
use Rattle.swmm_top.proofs.OutcomeLemmas.{faults_are_reported, not_bare}
use Rattle.swmm_top.proofs.taken.take_checked.Goals as goal

pub returns-in-len1-up-clause-taken : goal.returns-in-len1-up-clause-taken
returns-in-len1-up-clause-taken g c =
    faults_are_reported c.args.project c.args.faults.now _ _ _ _ _ c.requires.are (not_bare _ (rw c.as_slice.ensures at c.in-len1-up.len_at_least))
    c.put_project_faults.ensures.bytes c.refused.ensures.done c.refused.ensures.failed
