use Rattle.std.proofs.Common.{◌^◌, ℕ, arith}
use Rattle.std.proofs.lemmas.Int.{to_z-of_z}
use Rattle.fixed_num.specs.Ranges.{IsWithin}
use Rattle.summaries.specs.Loads.{load_at, volume_in}
use Rattle.summaries.proofs.LoadLemmas.{below_more}
use Rattle.summaries.proofs.RowLemmas.{rewritten_more}
use Rattle.summaries.proofs.outfall_summary.add_loads.Goals as goal

pub loop-k-preserved : goal.loop-k-preserved
loop-k-preserved c =
    let k = c.loop-k.k in
    let old = c.loop-k.invariant.0.left k (omega arith) in (
      rewritten_more c.loop-k.invariant.0 _ (omega (arith, c.loop-k.invariant.0.count)) (rw old at c.load.ensures.value),
      below_more _ k c.loop-k.invariant.1 (rw old at c.load.ensures.range),
    )
