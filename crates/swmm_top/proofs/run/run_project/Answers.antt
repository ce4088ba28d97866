-- A run that doesn't resume reads no hotstart.
use Rattle.std.proofs.Common.{◌≡◌, ◌∙◌, Bool, true, false, sym}
use Rattle.swmm_top.proofs.run.run_project.Goals as goal

pub returns-else-resumes-clause-to_end : goal.returns-else-resumes-clause-to_end
returns-else-resumes-clause-to_end g c = λ e. let bad : true ≡ false = sym e ∙ c.if-resumes.false in absurd cc
