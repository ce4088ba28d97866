use Rattle.run_engine.proofs.KeptLemmas.{kept_at}
use Rattle.run_engine.proofs.run.Run.add_step.Goals as goal

pub returns-clause-at : goal.returns-clause-at
returns-clause-at g c = kept_at c.step_and_line.ensures.kept
