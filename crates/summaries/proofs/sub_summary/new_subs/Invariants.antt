use Rattle.std.proofs.Common.{◌≡◌, replicate}
use Rattle.summaries.specs.Runoffs.{no_runoff}
use Rattle.summaries.proofs.sub_summary.new_subs.Given as goal

abbrev pub invariant-loop : goal.invariant-loop
invariant-loop l = l.list ≡ replicate l.counter no_runoff
