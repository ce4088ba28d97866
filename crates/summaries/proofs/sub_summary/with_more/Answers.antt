use Rattle.std.proofs.Common.{rules, ap, ℤ, FitsSigned}
use Rattle.std.specs.Int.{w64}
use Rattle.std.proofs.lemmas.Int.{to_z-of_z}
use Rattle.fixed_num.proofs.Bounds.{within_add, fits128}
use Rattle.summaries.proofs.RunoffLemmas.{plus, volumes_of, with_peak}
use Rattle.summaries.proofs.sub_summary.with_more.Goals as goal

pub returns : goal.returns
returns c =
    let s = c.requires.summary in
    let v = c.requires.step in
    let peak : FitsSigned w64 c.args.summary.now.peak = search rules in
    let most : FitsSigned w64 c.max.result = search rules in
    let greatest = simp (to_z-of_z, c.ranges.flow, peak) at c.max.ensures.value in
    let sums = plus (volumes_of c.args.summary.now) c.args.step.now in
    simp (
      to_z-of_z,
      most,
      fits128 s.rain tt,
      fits128 v.rain tt,
      fits128 (within_add s.rain v.rain) tt,
      fits128 s.infil tt,
      fits128 v.infil tt,
      fits128 (within_add s.infil v.infil) tt,
      fits128 s.runoff tt,
      fits128 v.runoff tt,
      fits128 (within_add s.runoff v.runoff) tt,
      fits128 s.stored tt,
      fits128 v.stored tt,
      fits128 (within_add s.stored v.stored) tt,
    ) (ap (λ (p : ℤ). with_peak sums p) greatest)
