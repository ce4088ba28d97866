-- The text of a sample that is accepted, and one that isn't.
use Rattle.command_words.specs.declared.command.Task.TheVariants.{Demo}
use Rattle.swmm_top.proofs.LeavesLemmas.{gives_answer, gives_fault, gives_refusal, not_kept_report}
use Rattle.swmm_top.proofs.demo.run_text.Goals as goal

pub returns-in-Ok-Accepted-clause-outcome : goal.returns-in-Ok-Accepted-clause-outcome
returns-in-Ok-Accepted-clause-outcome g c = λ hotstart hot.
    gives_answer (Demo c.args.number) c.args.text.now hotstart c.in-Ok-Accepted.project _ _ _ hot hot _ (rw c.in-Ok-Accepted.field-0-is at c.in-Ok-Accepted.ensures.taken)
    (c.run_quietly.ensures.outcome hot)

pub returns-in-Ok-Refused-clause-outcome : goal.returns-in-Ok-Refused-clause-outcome
returns-in-Ok-Refused-clause-outcome g c = λ hotstart hot.
    gives_refusal (Demo c.args.number) c.args.text.now hotstart _ _ hot (rw c.in-Ok-Refused.field-0-is at c.in-Ok-Refused.ensures.taken)

pub returns-in-Err-clause-outcome : goal.returns-in-Err-clause-outcome
returns-in-Err-clause-outcome g c = λ hotstart hot.
    gives_fault (Demo c.args.number) c.args.text.now hotstart _ _ hot _ (not_kept_report _ c.in-Err.ensures.ends.faults_are) c.in-Err.ensures.taken
