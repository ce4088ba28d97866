use Rattle.std.proofs.Common.{◌≡◌, ◌++◌, take, flat_map}
use Rattle.project_check.specs.ProjectFaults.{link_faults}
use Rattle.project_check.proofs.links.check_links.Given as goal

abbrev pub invariant-loop-link : goal.invariant-loop-link
invariant-loop-link l = l.faults ≡ take 100 (l.initial.faults ++ flat_map link_faults (take l.link-index l.links))
