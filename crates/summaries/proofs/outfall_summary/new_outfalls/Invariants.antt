use Rattle.std.proofs.Common.{◌≡◌, map, take}
use Rattle.summaries.specs.Loads.{no_load, outfalls_from}
use Rattle.summaries.proofs.outfall_summary.new_outfalls.Given as goal

abbrev pub invariant-loop-n : goal.invariant-loop-n
invariant-loop-n l = l.list ≡ map no_load (outfalls_from 0 (take l.n l.nodes))
