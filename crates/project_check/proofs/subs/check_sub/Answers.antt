use Rattle.std.proofs.Common.{◌∙◌, sym}
use Rattle.project_check.proofs.CutLemmas.{none_more}
use Rattle.project_check.proofs.subs.check_sub.Goals as goal

pub returns-then-is_good_sub : goal.returns-then-is_good_sub
returns-then-is_good_sub c = rw (sym c.is_good_sub.ensures ∙ c.if-is_good_sub.true) (none_more c.args.faults.now c.requires.room)
