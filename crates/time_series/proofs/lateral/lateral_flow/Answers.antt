use Rattle.std.proofs.Common.{rules, ◌∙◌, ap, FitsSigned, neg_ℤ, pos, ◌^◌, ℤ}
use Rattle.std.proofs.lemmas.Int.{to_z-of_z}
use Rattle.fixed_num.proofs.Bounds.{fits64, fits128, within_add, within_both, within_number, within_minus}
use Rattle.fixed_num.specs.Ranges.{cut_of}
use Rattle.time_series.proofs.WalkLemmas.{gross_is}
use Rattle.time_series.proofs.lateral.lateral_flow.Goals as goal

pub returns-clause-value : goal.returns-clause-value
returns-clause-value c =
    let direct = c.inflow_sum.ensures.range in
    let dry = c.dry_sum.ensures.range in
    let within = within_both c.cut.ensures.between (within_minus (10 ^ 12)) (within_number (10 ^ 12)) in
    let cut = simp (to_z-of_z, fits128 direct tt, fits128 dry tt, fits128 (within_add direct dry) tt) at
    c.cut.ensures.value in
    let at = simp (to_z-of_z, c.ranges.moment) at c.run_point-at.ensures.value in
    let direct_is = simp (to_z-of_z, c.ranges.moment) at c.inflow_sum.ensures.value in
    let sum = gross_is c.args.project.now c.args.node c.args.moment c.run_point-at.result c.inflow_sum.result
    c.dry_sum.result at direct_is c.dry_sum.ensures.value in
    simp (to_z-of_z, fits128 within tt, fits64 within tt)
    (cut ∙ ap (λ (z : ℤ). cut_of z (neg_ℤ (pos (10 ^ 12))) (pos (10 ^ 12))) sum)
