-- The work of a run is that of the words where they are one.
use Rattle.std.proofs.Common.{◌∙◌, ap}
use Rattle.command_words.specs.CommandWords.{command_of}
use Rattle.swmm_top.proofs.TopLemmas.{run_work}
use Rattle.swmm_top.specs.Work.{runs_of}
use Rattle.swmm_top.proofs.work.read_run.Goals as goal

pub returns-in-Ok : goal.returns-in-Ok
returns-in-Ok c = c.runs.ensures ∙ ap runs_of c.in-Ok.ensures ∙ run_work (command_of c.args.words.now)
