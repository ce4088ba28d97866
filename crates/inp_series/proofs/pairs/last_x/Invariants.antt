use Rattle.std.proofs.Common.{◌≡◌, length}
use Rattle.std.specs.List.{last_or}
use Rattle.inp_series.specs.Pairs.{xs_of}
use Rattle.inp_series.proofs.pairs.last_x.Given as goal

abbrev pub invariant-loop-x : goal.invariant-loop-x
invariant-loop-x l = last_or l.last (xs_of l.axis l.rest) ≡ last_or l.initial.last (xs_of l.axis l.tokens)

abbrev pub decreases-loop-x : goal.decreases-loop-x
decreases-loop-x l = length l.rest
