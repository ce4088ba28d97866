use Rattle.std.proofs.Common.{◌≡◌, ℕ, length, slice_index_or, None}
use Rattle.node_update.specs.OutfallConduits.{ending_link}
use Rattle.node_update.proofs.ends.mark_ends.Given as goal

abbrev pub invariant-loop-l : goal.invariant-loop-l
invariant-loop-l l = record {
  count : length l.ends ≡ length l.initial.ends;
  each : (n : ℕ) → slice_index_or l.ends n None ≡ ending_link l.links n l.l;
}
