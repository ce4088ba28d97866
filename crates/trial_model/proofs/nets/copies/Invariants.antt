use Rattle.std.proofs.Common.{◌≡◌, replicate}
use Rattle.trial_model.proofs.nets.copies.Given as goal

abbrev pub invariant-loop : goal.invariant-loop
invariant-loop g l = l.list ≡ replicate l.counter l.item
