-- Each kind of work gives an outcome of its task.
use Rattle.std.proofs.Common.{◌≡◌, ◌∙◌, Bool, true, false, ap, sym}
use Rattle.swmm_top.proofs.TopLemmas.{gives_check, gives_demo, gives_run}
use Rattle.swmm_top.specs.Uses.{work_reads, work_resumes}
use Rattle.swmm_top.proofs.task.do_work.Goals as goal

pub returns-in-Run-clause-outcome : goal.returns-in-Run-clause-outcome
returns-in-Run-clause-outcome g c = λ task e.
    gives_run _ _ task (e ∙ c.in-Run.is) _ _ _ _ _ _ _ (c.run_input.ensures.outcome task (e ∙ c.in-Run.is))

pub returns-in-Check-clause-outcome : goal.returns-in-Check-clause-outcome
returns-in-Check-clause-outcome g c = λ task e. gives_check task (e ∙ c.in-Check.is) _ _ _ _ _ _ c.check_input.ensures.outcome

pub returns-in-Check-clause-hotstart_to_end : goal.returns-in-Check-clause-hotstart_to_end
returns-in-Check-clause-hotstart_to_end g c = λ h. let bad : false ≡ true = sym (ap work_resumes c.in-Check.is) ∙ h in absurd cc

pub returns-in-Demo-clause-outcome : goal.returns-in-Demo-clause-outcome
returns-in-Demo-clause-outcome g c = λ task e. gives_demo _ task (e ∙ c.in-Demo.is) _ _ _ _ _ _ c.run_sample.ensures.outcome

pub returns-in-Demo-clause-input_to_end : goal.returns-in-Demo-clause-input_to_end
returns-in-Demo-clause-input_to_end g c = λ h. let bad : false ≡ true = sym (ap work_reads c.in-Demo.is) ∙ h in absurd cc

pub returns-in-Demo-clause-hotstart_to_end : goal.returns-in-Demo-clause-hotstart_to_end
returns-in-Demo-clause-hotstart_to_end g c = λ h. let bad : false ≡ true = sym (ap work_resumes c.in-Demo.is) ∙ h in absurd cc
