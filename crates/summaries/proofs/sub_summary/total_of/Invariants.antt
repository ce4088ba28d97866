use Rattle.std.proofs.Common.{◌≡◌, take}
use Rattle.summaries.specs.Runoffs.{IsTotal}
use Rattle.summaries.proofs.sub_summary.total_of.Given as goal

abbrev pub invariant-loop-sub : goal.invariant-loop-sub
invariant-loop-sub l = IsTotal (take l.sub-index l.subs) l.sums
