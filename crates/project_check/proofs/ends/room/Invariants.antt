use Rattle.std.proofs.Common.{◌≡◌, replicate}
use Rattle.project_check.specs.Ends.{no_ends}
use Rattle.project_check.proofs.ends.room.Given as goal

abbrev pub invariant-loop : goal.invariant-loop
invariant-loop l = l.list ≡ replicate l.counter no_ends
