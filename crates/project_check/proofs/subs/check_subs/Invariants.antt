use Rattle.std.proofs.Common.{◌≡◌, ◌++◌, take, flat_map}
use Rattle.project_check.specs.ProjectFaults.{sub_faults}
use Rattle.project_check.proofs.subs.check_subs.Given as goal

abbrev pub invariant-loop-sub : goal.invariant-loop-sub
invariant-loop-sub l = l.faults ≡ take 100 (l.initial.faults ++ flat_map sub_faults (take l.sub-index l.subs))
