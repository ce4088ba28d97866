use Rattle.std.proofs.Common.{◌≡◌, ℕ, ◌<◌, slice_index_or}
use Rattle.trial_model.specs.Start.{no_node}
use Rattle.phase_machine.specs.Places.{node_fixed_in}
use Rattle.phase_core.proofs.columns.fill_node_fixed.Given as goal

abbrev pub invariant-loop-node : goal.invariant-loop-node
invariant-loop-node g l = (j : ℕ) → j < l.node → slice_index_or l.to j no_node ≡ node_fixed_in (g.P.PhaseLaw.law l.law) l.words j
