-- An input that is accepted, one that is refused, and one that can't be taken.
use Rattle.command_words.specs.declared.command.Task.TheVariants.{Check}
use Rattle.swmm_top.proofs.LeavesLemmas.{gives_answer, gives_fault, gives_refusal, leaves_report, lift, not_kept}
use Rattle.swmm_top.specs.declared.status.Status.TheVariants.{Done}
use Rattle.swmm_top.proofs.task.check_input.Goals as goal

pub returns-in-Ok-Accepted-clause-outcome : goal.returns-in-Ok-Accepted-clause-outcome
returns-in-Ok-Accepted-clause-outcome g c = λ name hotstart hot.
    lift _ _ _ (λ input said. gives_answer (Check name) input hotstart c.in-Ok-Accepted.project _ _ _ hot hot _ said
    (leaves_report Done _ _ _ hot _ _ c.put_accepted.ensures.bytes c.ended.ensures.done c.ended.ensures.failed)) (rw c.in-Ok-Accepted.field-0-is at c.in-Ok-Accepted.ensures.taken)

pub returns-in-Ok-Refused-clause-outcome : goal.returns-in-Ok-Refused-clause-outcome
returns-in-Ok-Refused-clause-outcome g c = λ name hotstart hot.
    lift _ _ _ (λ input said. gives_refusal (Check name) input hotstart _ _ hot said) (rw c.in-Ok-Refused.field-0-is at c.in-Ok-Refused.ensures.taken)

pub returns-in-Err-clause-outcome : goal.returns-in-Err-clause-outcome
returns-in-Err-clause-outcome g c = λ name hotstart hot.
    lift _ _ _ (λ input said. gives_fault (Check name) input hotstart _ _ hot _ (not_kept _ c.in-Err.ensures.faults) said) c.in-Err.ensures.taken
