use Rattle.std.proofs.Common.{◌≡◌, take}
use Rattle.summaries.specs.Figures.{inverts_of}
use Rattle.summaries.proofs.figures.inverts.Given as goal

abbrev pub invariant-loop-node : goal.invariant-loop-node
invariant-loop-node l = l.inverts ≡ inverts_of (take l.node-index l.nodes)
