use Rattle.std.proofs.Common.{arith, ap, length, ◌∙◌}
use Rattle.std.proofs.lemmas.Int.{to_z-of_z}
use Rattle.fixed_num.proofs.Bounds.{within_add, fits128}
use Rattle.time_series.specs.Inflows.{dry_at}
use Rattle.time_series.proofs.SumLemmas.{summed_more, sum_fits}
use Rattle.time_series.proofs.lateral.dry_sum.Goals as goal

pub loop-dry-preserved : goal.loop-dry-preserved
loop-dry-preserved c =
    let part = fits128 c.dry_at-total.ensures.range tt in
    let few = sum_fits c.loop-dry.invariant (omega (
      arith,
      ap length c.as_slice-dry-items.ensures,
      c.requires.sound.few.dry,
    )) in
    let sum = fits128 (within_add few c.dry_at-total.ensures.range) tt in
    simp (to_z-of_z, part, sum) (summed_more c.loop-dry.invariant c.dry-item.result c.dry_at-total.result
    (omega arith) (c.dry_at-total.ensures.value ∙ ap (dry_at c.args.project.now c.args.at.now c.args.node)
    c.dry-item.is) c.dry_at-total.ensures.range)
