use Rattle.hotstart.proofs.CheckLemmas.{file_fault_is}
use Rattle.hotstart.proofs.checks.check_file.Goals as goal

pub returns-in-Err : goal.returns-in-Err
returns-in-Err c = file_fault_is _ _ c.in-Err.refusal c.in-Err.ensures
