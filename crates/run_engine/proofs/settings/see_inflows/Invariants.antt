use Rattle.std.proofs.Common.{pos}
use Rattle.run_engine.specs.Settings.{seen_inflow}
use Rattle.run_engine.proofs.FillLemmas.{Filled}
use Rattle.run_engine.proofs.settings.see_inflows.Given as goal

abbrev pub invariant-loop-n : goal.invariant-loop-n
invariant-loop-n l = Filled (seen_inflow l.inflows l.nodes) (pos 0) l.initial.seen l.seen l.n
