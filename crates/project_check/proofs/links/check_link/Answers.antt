use Rattle.std.proofs.Common.{◌∙◌, sym}
use Rattle.project_check.proofs.CutLemmas.{none_more}
use Rattle.project_check.proofs.links.check_link.Goals as goal

pub returns-then-is_good_link : goal.returns-then-is_good_link
returns-then-is_good_link c = rw (sym c.is_good_link.ensures ∙ c.if-is_good_link.true) (none_more c.args.faults.now c.requires.room)
