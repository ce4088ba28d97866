use Rattle.std.proofs.Common.{◌≡◌, ℕ, ◌+◌, ◌*◌, length}
use Rattle.phase_core.specs.Opening.{NodesLaid}
use Rattle.phase_core.proofs.opening.push_nodes.Given as goal

abbrev pub invariant-loop-node : goal.invariant-loop-node
invariant-loop-node g l = record {
  size : length l.words ≡ 3 + 6 * (g.P.PhaseLaw.law l.law).links + 10 * l.node;
  laid : NodesLaid (g.P.PhaseLaw.law l.law) l.nets l.words l.node;
}
