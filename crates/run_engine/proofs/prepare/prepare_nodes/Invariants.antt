use Rattle.trial_model.specs.Start.{no_node}
use Rattle.run_engine.specs.States.{node_start}
use Rattle.run_engine.proofs.FillLemmas.{Filled}
use Rattle.run_engine.proofs.prepare.prepare_nodes.Given as goal

abbrev pub invariant-loop-n : goal.invariant-loop-n
invariant-loop-n l = Filled (node_start l.start l.heads l.inflows l.outflows l.initial.nodes l.finish l.dt) no_node l.initial.nodes l.nodes l.n
