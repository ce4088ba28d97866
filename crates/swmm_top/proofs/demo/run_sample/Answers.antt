-- The text of the sample is its input.
use Rattle.std.proofs.Common.{◌∙◌}
use Rattle.command_words.specs.declared.command.Task.TheVariants.{Demo}
use Rattle.swmm_top.proofs.LeavesLemmas.{gives_no_run}
use Rattle.swmm_top.proofs.demo.run_sample.Goals as goal

pub returns-in-Ok-clause-outcome : goal.returns-in-Ok-clause-outcome
returns-in-Ok-clause-outcome g c = λ hotstart hot. rw (c.as_slice.ensures ∙ c.in-Ok.ensures) at (c.run_text.ensures.outcome hotstart hot)

pub returns-in-Err-clause-outcome : goal.returns-in-Err-clause-outcome
returns-in-Err-clause-outcome g c = λ hotstart hot. gives_no_run (Demo c.args.number) _ hotstart _ hot
