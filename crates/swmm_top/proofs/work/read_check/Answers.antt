-- The work of a check is that of the words where they are one.
use Rattle.std.proofs.Common.{◌∙◌, ap}
use Rattle.command_words.specs.CommandWords.{command_of}
use Rattle.swmm_top.proofs.TopLemmas.{check_work}
use Rattle.swmm_top.specs.Work.{checks_of}
use Rattle.swmm_top.proofs.work.read_check.Goals as goal

pub returns-in-Ok : goal.returns-in-Ok
returns-in-Ok c = c.checks.ensures ∙ ap checks_of c.in-Ok.ensures ∙ check_work (command_of c.args.words.now)
