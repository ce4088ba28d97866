use Rattle.std.proofs.Common.{◌≡◌, ◌++◌, ◌<◌, ◌≤◌, ℕ, length, take, flat_map}
use Rattle.std.specs.List.{range_with_len}
use Rattle.net_types.specs.declared.project.Project.{Project}
use Rattle.project_check.specs.Ends.{ends_of, node_ends_at}
use Rattle.project_check.specs.ProjectFaults.{node_faults}
use Rattle.project_check.proofs.nodes.check_nodes.Given as goal

abbrev pub invariant-loop-n : goal.invariant-loop-n
invariant-loop-n l = record {
  room : length l.faults ≤ 100;
  made : (project : Project) → project.nodes ≡ l.nodes → ((n : ℕ) → n < length l.nodes → node_ends_at l.ends n ≡ ends_of project.links n)
      → l.faults ≡ take 100 (l.initial.faults ++ flat_map (node_faults project) (take l.n (range_with_len 0 (length l.nodes))));
}
