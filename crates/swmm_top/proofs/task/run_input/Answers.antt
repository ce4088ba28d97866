-- An input that is accepted, one that is refused, and one that can't be taken.
use Rattle.swmm_top.proofs.LeavesLemmas.{fault_gives, not_kept, refusal_gives, run_gives}
use Rattle.swmm_top.proofs.task.run_input.Goals as goal

pub returns-in-Ok-Accepted-clause-outcome : goal.returns-in-Ok-Accepted-clause-outcome
returns-in-Ok-Accepted-clause-outcome g c = λ task is.
    run_gives c.args.resumes c.args.keeps task is _ _ c.in-Ok-Accepted.project _ _ _ _ _ _ (rw c.in-Ok-Accepted.field-0-is at c.in-Ok-Accepted.ensures.taken)
    c.run_project.ensures.outcome

pub returns-in-Ok-Refused-clause-outcome : goal.returns-in-Ok-Refused-clause-outcome
returns-in-Ok-Refused-clause-outcome g c = λ task is.
    refusal_gives task _ _ _ _ _ (rw c.in-Ok-Refused.field-0-is at c.in-Ok-Refused.ensures.taken)

pub returns-in-Err-clause-outcome : goal.returns-in-Err-clause-outcome
returns-in-Err-clause-outcome g c = λ task is. fault_gives task _ _ _ _ _ _ (not_kept _ c.in-Err.ensures.faults) c.in-Err.ensures.taken
