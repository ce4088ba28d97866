-- The subcatchments so far.
use Rattle.std.proofs.Common.{◌≡◌, map, take}
use Rattle.hotstart.specs.Reading.{start_sub as start_of_sub}
use Rattle.hotstart.proofs.columns.start_subs.Given as goal

abbrev pub invariant-loop-sub : goal.invariant-loop-sub
invariant-loop-sub l = l.subs ≡ map start_of_sub (take l.sub-index l.sub-items)
