use Rattle.std.proofs.Common.{◌≡◌, length}
use Rattle.run_engine.proofs.subs.no_steps.Given as goal

abbrev pub invariant-loop : goal.invariant-loop
invariant-loop l = length l.steps ≡ l.counter
