use Rattle.trial_model.specs.Start.{no_node}
use Rattle.run_engine.specs.States.{opening_node}
use Rattle.run_engine.proofs.FillLemmas.{Filled}
use Rattle.run_engine.proofs.opening.open_nodes.Given as goal

abbrev pub invariant-loop-n : goal.invariant-loop-n
invariant-loop-n l = Filled (opening_node l.start) no_node l.initial.fixed l.fixed l.n
