use Rattle.std.proofs.Common.{pos}
use Rattle.run_engine.specs.States.{opening_head}
use Rattle.run_engine.proofs.FillLemmas.{Filled}
use Rattle.run_engine.proofs.opening.open_heads.Given as goal

abbrev pub invariant-loop-n : goal.invariant-loop-n
invariant-loop-n l = Filled (opening_head l.start) (pos 0) l.initial.heads l.heads l.n
