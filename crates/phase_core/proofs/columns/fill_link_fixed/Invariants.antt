use Rattle.std.proofs.Common.{◌≡◌, ℕ, ◌<◌, slice_index_or}
use Rattle.trial_model.specs.Start.{no_link}
use Rattle.phase_machine.specs.Places.{link_fixed_in}
use Rattle.phase_core.proofs.columns.fill_link_fixed.Given as goal

abbrev pub invariant-loop-link : goal.invariant-loop-link
invariant-loop-link l = (j : ℕ) → j < l.link → slice_index_or l.to j no_link ≡ link_fixed_in l.words j
