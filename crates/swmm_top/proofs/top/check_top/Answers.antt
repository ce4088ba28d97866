-- What words give, by their work.
use Rattle.std.proofs.Common.{inl, refl}
use Rattle.command_words.specs.CommandWords.{command_of}
use Rattle.swmm_top.proofs.CompleteLemmas.{completes, one_failed}
use Rattle.swmm_top.proofs.TopLemmas.{gives_checked, gives_no_memory, gives_usage}
use Rattle.swmm_top.specs.Uses.{check_only}
use Rattle.swmm_top.proofs.top.check_top.Goals as goal

pub returns-in-Ok-Some-clause-outcome : goal.returns-in-Ok-Some-clause-outcome
returns-in-Ok-Some-clause-outcome g c =
    gives_checked (command_of c.args.words.now) c.in-Ok-Some.field-0-0 (rw c.in-Ok-Some.field-0-is at c.in-Ok-Some.ensures) _ _ _ _ c.check_input.ensures.outcome

pub returns-in-Ok-None-clause-outcome : goal.returns-in-Ok-None-clause-outcome
returns-in-Ok-None-clause-outcome g c = gives_usage (check_only (command_of c.args.words.now)) (rw c.in-Ok-None.field-0-is at c.in-Ok-None.ensures) _ _ _ _

pub returns-in-Err-clause-outcome : goal.returns-in-Err-clause-outcome
returns-in-Err-clause-outcome g c = gives_no_memory (check_only (command_of c.args.words.now)) _ _ _ _

pub returns-in-Ok-Some-clause-complete : goal.returns-in-Ok-Some-clause-complete
returns-in-Ok-Some-clause-complete g c = completes (check_only (command_of c.args.words.now)) _ _ _ _ _ _ _ _
    (gives_checked (command_of c.args.words.now) c.in-Ok-Some.field-0-0 (rw c.in-Ok-Some.field-0-is at c.in-Ok-Some.ensures) _ _ _ _ c.check_input.ensures.outcome)
    (one_failed _ _ _ _ _ _ _ _ _ c.check_input.ensures.faults c.check_input.ensures.read_input c.check_input.ensures.write_report)

pub returns-in-Ok-None-clause-complete : goal.returns-in-Ok-None-clause-complete
returns-in-Ok-None-clause-complete g c = completes (check_only (command_of c.args.words.now)) _ _ _ _ _ _ _ _
    (gives_usage (check_only (command_of c.args.words.now)) (rw c.in-Ok-None.field-0-is at c.in-Ok-None.ensures) _ _ _ _) tt

pub returns-in-Err-clause-complete : goal.returns-in-Err-clause-complete
returns-in-Err-clause-complete g c = completes (check_only (command_of c.args.words.now)) _ _ _ _ _ _ _ _
    (gives_no_memory (check_only (command_of c.args.words.now)) _ _ _ _) (inl refl)
