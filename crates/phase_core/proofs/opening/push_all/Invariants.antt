use Rattle.std.proofs.Common.{◌≡◌, ◌++◌, take}
use Rattle.phase_core.proofs.opening.push_all.Given as goal

abbrev pub invariant-loop-k : goal.invariant-loop-k
invariant-loop-k l = l.words ≡ l.initial.words ++ take l.k l.values
