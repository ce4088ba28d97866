use Rattle.std.proofs.Common.{◌≡◌, ◌++◌, length}
use Rattle.inp_series.specs.Pairs.{values_of}
use Rattle.inp_series.proofs.pairs.add_pairs.Given as goal

abbrev pub invariant-loop-x : goal.invariant-loop-x
invariant-loop-x l = l.pairs ++ values_of l.axis l.rest ≡ l.initial.pairs ++ values_of l.axis l.tokens

abbrev pub decreases-loop-x : goal.decreases-loop-x
decreases-loop-x l = length l.rest
