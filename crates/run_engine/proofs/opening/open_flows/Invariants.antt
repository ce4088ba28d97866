use Rattle.std.proofs.Common.{pos}
use Rattle.run_engine.specs.States.{opening_flow}
use Rattle.run_engine.proofs.FillLemmas.{Filled}
use Rattle.run_engine.proofs.opening.open_flows.Given as goal

abbrev pub invariant-loop-l : goal.invariant-loop-l
invariant-loop-l l = Filled (opening_flow l.start) (pos 0) l.initial.flows l.flows l.l
