use Rattle.std.proofs.Common.{◌≡◌, length}
use Rattle.run_engine.proofs.hot.sub_places.Given as goal

abbrev pub invariant-loop : goal.invariant-loop
invariant-loop l = length l.subs ≡ l.counter
