use Rattle.trial_model.specs.Start.{no_link}
use Rattle.run_engine.specs.States.{opening_link}
use Rattle.run_engine.proofs.FillLemmas.{Filled}
use Rattle.run_engine.proofs.opening.open_links.Given as goal

abbrev pub invariant-loop-l : goal.invariant-loop-l
invariant-loop-l l = Filled (opening_link l.start) no_link l.initial.fixed l.fixed l.l
