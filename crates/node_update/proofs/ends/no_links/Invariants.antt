use Rattle.std.proofs.Common.{◌≡◌, replicate, None}
use Rattle.node_update.proofs.ends.no_links.Given as goal

abbrev pub invariant-loop : goal.invariant-loop
invariant-loop l = l.list ≡ replicate l.counter None
