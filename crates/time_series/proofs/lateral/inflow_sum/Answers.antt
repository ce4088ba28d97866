use Rattle.std.proofs.Common.{arith, ap, length, ◌∙◌}
use Rattle.std.proofs.lemmas.Int.{to_z-of_z}
use Rattle.fixed_num.proofs.Bounds.{within_add, fits128}
use Rattle.time_series.proofs.SumLemmas.{summed_more, sum_fits}
use Rattle.time_series.proofs.lateral.inflow_sum.Goals as goal

pub loop-inflow-preserved : goal.loop-inflow-preserved
loop-inflow-preserved c =
    let part = fits128 c.inflow_at-total.ensures.range tt in
    let few = sum_fits c.loop-inflow.invariant (omega (
      arith,
      ap length c.as_slice-inflow-items.ensures,
      c.requires.sound.few.inflows,
    )) in
    let sum = fits128 (within_add few c.inflow_at-total.ensures.range) tt in
    simp (to_z-of_z, part, sum) (summed_more c.loop-inflow.invariant _ c.inflow_at-total.result (omega arith)
    c.inflow_at-total.ensures.value c.inflow_at-total.ensures.range)
