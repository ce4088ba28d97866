use Rattle.std.proofs.Common.{pos}
use Rattle.run_engine.specs.Settings.{pumped_setting}
use Rattle.run_engine.proofs.FillLemmas.{Filled}
use Rattle.run_engine.proofs.settings.find_pumped.Given as goal

abbrev pub invariant-loop-l : goal.invariant-loop-l
invariant-loop-l l = Filled (pumped_setting l.project l.heads l.links) (pos 0) l.initial.settings l.settings l.l
