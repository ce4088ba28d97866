use Rattle.std.proofs.Common.{◌≡◌, ℕ, ◌<◌, slice_index_or}
use Rattle.fixed_num.specs.Lists.{number}
use Rattle.phase_machine.specs.Places.{node_place}
use Rattle.phase_core.proofs.columns.fill_nodes.Given as goal

abbrev pub invariant-loop-node : goal.invariant-loop-node
invariant-loop-node g l = (j : ℕ) → j < l.node → number l.to j ≡ number l.words (node_place (g.P.PhaseLaw.law l.law) j l.k)
