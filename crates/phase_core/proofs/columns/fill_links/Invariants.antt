use Rattle.std.proofs.Common.{◌≡◌, ℕ, ◌<◌, slice_index_or}
use Rattle.fixed_num.specs.Lists.{number}
use Rattle.phase_machine.specs.Places.{link_place}
use Rattle.phase_core.proofs.columns.fill_links.Given as goal

abbrev pub invariant-loop-link : goal.invariant-loop-link
invariant-loop-link l = (j : ℕ) → j < l.link → number l.to j ≡ number l.words (link_place j l.k)
