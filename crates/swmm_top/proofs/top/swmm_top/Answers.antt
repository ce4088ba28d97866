-- What words give, by their work.
use Rattle.std.proofs.Common.{◌∙◌, inl, refl, sym}
use Rattle.command_words.specs.CommandWords.{command_of}
use Rattle.swmm_top.proofs.CompleteLemmas.{completes, some_failed}
use Rattle.swmm_top.proofs.TopLemmas.{gives_no_memory, gives_usage, gives_words, is_command, is_none, no_use, not_usage, uses_is}
use Rattle.swmm_top.specs.Uses.{work_keeps, work_reads, work_resumes}
use Rattle.swmm_top.proofs.top.swmm_top.Goals as goal

pub returns-in-Ok-Some-clause-outcome : goal.returns-in-Ok-Some-clause-outcome
returns-in-Ok-Some-clause-outcome g c = gives_words (command_of c.args.words.now) c.in-Ok-Some.work (rw c.in-Ok-Some.field-0-is at c.in-Ok-Some.ensures) _ _ _ _ _ _ _ c.do_work.ensures.outcome

pub returns-in-Ok-Some-clause-usage : goal.returns-in-Ok-Some-clause-usage
returns-in-Ok-Some-clause-usage g c = λ e. absurd (not_usage _ c.do_work.ensures.no_usage e)

pub returns-in-Ok-Some-clause-no_command : goal.returns-in-Ok-Some-clause-no_command
returns-in-Ok-Some-clause-no_command g c = λ e. absurd (is_command (command_of c.args.words.now) c.in-Ok-Some.work (rw c.in-Ok-Some.field-0-is at c.in-Ok-Some.ensures) e)

pub returns-in-Ok-Some-clause-input_to_end : goal.returns-in-Ok-Some-clause-input_to_end
returns-in-Ok-Some-clause-input_to_end g c = λ e. c.do_work.ensures.input_to_end (sym (uses_is work_reads (command_of c.args.words.now) c.in-Ok-Some.work (rw c.in-Ok-Some.field-0-is at c.in-Ok-Some.ensures)) ∙ e)

pub returns-in-Ok-Some-clause-hotstart_to_end : goal.returns-in-Ok-Some-clause-hotstart_to_end
returns-in-Ok-Some-clause-hotstart_to_end g c = λ e. c.do_work.ensures.hotstart_to_end (sym (uses_is work_resumes (command_of c.args.words.now) c.in-Ok-Some.work (rw c.in-Ok-Some.field-0-is at c.in-Ok-Some.ensures)) ∙ e)

pub returns-in-Ok-Some-clause-input_unused : goal.returns-in-Ok-Some-clause-input_unused
returns-in-Ok-Some-clause-input_unused g c = λ e. c.do_work.ensures.input_unused (sym (uses_is work_reads (command_of c.args.words.now) c.in-Ok-Some.work (rw c.in-Ok-Some.field-0-is at c.in-Ok-Some.ensures)) ∙ e)

pub returns-in-Ok-Some-clause-hotstart_unused : goal.returns-in-Ok-Some-clause-hotstart_unused
returns-in-Ok-Some-clause-hotstart_unused g c = λ e. c.do_work.ensures.hotstart_unused (sym (uses_is work_resumes (command_of c.args.words.now) c.in-Ok-Some.work (rw c.in-Ok-Some.field-0-is at c.in-Ok-Some.ensures)) ∙ e)

pub returns-in-Ok-Some-clause-hotstart_unkept : goal.returns-in-Ok-Some-clause-hotstart_unkept
returns-in-Ok-Some-clause-hotstart_unkept g c = λ e. c.do_work.ensures.hotstart_unkept (sym (uses_is work_keeps (command_of c.args.words.now) c.in-Ok-Some.work (rw c.in-Ok-Some.field-0-is at c.in-Ok-Some.ensures)) ∙ e)

pub returns-in-Ok-Some-clause-report_unused : goal.returns-in-Ok-Some-clause-report_unused
returns-in-Ok-Some-clause-report_unused g c = λ e. absurd (is_command (command_of c.args.words.now) c.in-Ok-Some.work (rw c.in-Ok-Some.field-0-is at c.in-Ok-Some.ensures) e)

pub returns-in-Ok-None-clause-outcome : goal.returns-in-Ok-None-clause-outcome
returns-in-Ok-None-clause-outcome g c = gives_usage (command_of c.args.words.now) (rw c.in-Ok-None.field-0-is at c.in-Ok-None.ensures) _ _ _ _

pub returns-in-Err-clause-outcome : goal.returns-in-Err-clause-outcome
returns-in-Err-clause-outcome g c = gives_no_memory (command_of c.args.words.now) _ _ _ _

pub returns-in-Ok-Some-clause-complete : goal.returns-in-Ok-Some-clause-complete
returns-in-Ok-Some-clause-complete g c = completes (command_of c.args.words.now) _ _ _ _ _ _ _ _
    (gives_words (command_of c.args.words.now) c.in-Ok-Some.work (rw c.in-Ok-Some.field-0-is at c.in-Ok-Some.ensures) _ _ _ _ _ _ _ c.do_work.ensures.outcome)
    (some_failed _ _ _ _ _ _ _ _ _ c.do_work.ensures.faults c.do_work.ensures.read_input c.do_work.ensures.read_hotstart
    c.do_work.ensures.ends.report c.do_work.ensures.ends.hotstart)

pub returns-in-Ok-None-clause-complete : goal.returns-in-Ok-None-clause-complete
returns-in-Ok-None-clause-complete g c = completes (command_of c.args.words.now) _ _ _ _ _ _ _ _
    (gives_usage (command_of c.args.words.now) (rw c.in-Ok-None.field-0-is at c.in-Ok-None.ensures) _ _ _ _) tt

pub returns-in-Err-clause-complete : goal.returns-in-Err-clause-complete
returns-in-Err-clause-complete g c = completes (command_of c.args.words.now) _ _ _ _ _ _ _ _
    (gives_no_memory (command_of c.args.words.now) _ _ _ _) (inl refl)
