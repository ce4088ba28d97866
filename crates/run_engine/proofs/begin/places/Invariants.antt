use Rattle.std.proofs.Common.{◌≡◌, length}
use Rattle.run_engine.proofs.begin.places.Given as goal

abbrev pub invariant-loop : goal.invariant-loop
invariant-loop l = length l.list ≡ l.counter
