use Rattle.std.proofs.Common.{◌≡◌, ◌++◌, filter_map, length}
use Rattle.inp_series.specs.PatternLines.{factor_of}
use Rattle.inp_series.proofs.patterns.add_factors.Given as goal

abbrev pub invariant-loop-text : goal.invariant-loop-text
invariant-loop-text l = l.factors ++ filter_map factor_of l.rest ≡ l.initial.factors ++ filter_map factor_of l.tokens

abbrev pub decreases-loop-text : goal.decreases-loop-text
decreases-loop-text l = length l.rest
