use Rattle.std.proofs.Common.{◌≡◌, map, take}
use Rattle.run_engine.specs.Laterals.{state_in}
use Rattle.run_engine.proofs.subs.kept_states.Given as goal

abbrev pub invariant-loop-sub : goal.invariant-loop-sub
invariant-loop-sub l = l.states ≡ map state_in (take l.sub-index l.subs)
