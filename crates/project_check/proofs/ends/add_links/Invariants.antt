use Rattle.std.proofs.Common.{◌≡◌, ℕ, take}
use Rattle.project_check.specs.Ends.{ends_of, node_ends_at}
use Rattle.project_check.proofs.ends.add_links.Given as goal

abbrev pub invariant-loop-link : goal.invariant-loop-link
invariant-loop-link l = (n : ℕ) → node_ends_at l.ends n ≡ ends_of (take l.link-index l.links) n
