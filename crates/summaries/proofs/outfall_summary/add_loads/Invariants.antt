use Rattle.std.proofs.Common.{◌^◌, ℕ, ◌<◌}
use Rattle.fixed_num.specs.Ranges.{IsWithin}
use Rattle.summaries.specs.Loads.{load_at, net_in, no_load, volume_in, with_load}
use Rattle.summaries.proofs.RowLemmas.{Rewritten}
use Rattle.summaries.proofs.outfall_summary.add_loads.Given as goal

abbrev pub invariant-loop-k : goal.invariant-loop-k
invariant-loop-k l =
    Rewritten (no_load 0) (λ k. with_load l.first (load_at l.fn.outfalls k) (net_in l.nets (load_at l.fn.outfalls k).node)
    (volume_in l.nets l.ms (load_at l.fn.outfalls k).node)) l.fn.outfalls l.outfalls l.k
    × ((k : ℕ) → k < l.k → IsWithin (10 ^ 24) (volume_in l.nets l.ms (load_at l.fn.outfalls k).node))
