use Rattle.std.proofs.Common.{◌≡◌, take}
use Rattle.inp_options.specs.declared.chosen.Latest.{Latest}
use Rattle.inp_options.specs.Chosen.{latest_of, settings}
use Rattle.inp_options.specs.Latest.{AreLatest}
use Rattle.inp_options.proofs.chosen.latest_in.Given as goal

-- what the lines so far set
pub record ReadSoFar (latest set : Latest) : Type 0 where
  pub value : latest ≡ set
  pub range : AreLatest latest

abbrev pub invariant-loop-line : goal.invariant-loop-line
invariant-loop-line l = ReadSoFar l.latest (latest_of (settings l.units (take l.line-index l.lines)))
