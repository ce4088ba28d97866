use Rattle.std.proofs.Common.{◌≡◌, replicate}
use Rattle.phase_machine.specs.Core.{idle}
use Rattle.phase_core.proofs.opening.idle_seats.Given as goal

abbrev pub invariant-loop : goal.invariant-loop
invariant-loop l = l.seats.items ≡ replicate l.counter idle
