use Rattle.std.proofs.Common.{rules, ◌≡◌, ◌^◌, ◌∙◌, FitsSigned, ap, sym, subst, refl, ℤ, ◌+ℤ◌}
use Rattle.std.specs.Int.{w64, w128}
use Rattle.std.proofs.lemmas.Int.{to_z-of_z}
use Rattle.fixed_num.specs.Ranges.{IsWithin}
use Rattle.fixed_num.proofs.Bounds.{fits64, fits128, within_add, within_up}
use Rattle.time_series.proofs.AmountLemmas.{coefficient_raw}
use Rattle.time_series.proofs.amounts.inflow_amount.Goals as goal

pub scaled-requires-2-clause-factor : goal.scaled-requires-2-clause-factor
scaled-requires-2-clause-factor c =
    let fits : FitsSigned w64 c.pattern_part-factor.result = search rules in
    simp (to_z-of_z, fits) (coefficient_raw c.pattern_part-factor.ensures.range)

pub overflow_add-result : goal.overflow_add-result
overflow_add-result c =
    let one = c.scaled.ensures.range in
    let two = c.scaled-2.ensures.range in
    simp (to_z-of_z, fits128 one tt, fits128 two tt) (fits128 (within_add one two) tt)

pub returns-clause-range : goal.returns-clause-range
returns-clause-range c =
    let one = c.scaled.ensures.range in
    let two = c.scaled-2.ensures.range in
    simp (to_z-of_z, fits128 one tt, fits128 two tt, fits128 (within_add one two) tt)
    (within_up (within_add one two) tt)

pub returns-clause-value : goal.returns-clause-value
returns-clause-value c =
    let one = c.scaled.ensures.range in
    let two = c.scaled-2.ensures.range in
    let series : FitsSigned w64 c.series_part-series.result = search rules in
    let factor : FitsSigned w64 c.pattern_part-factor.result = search rules in
    let scale = fits64 c.requires.range.scale_in tt in
    let base = fits64 c.requires.range.base_in tt in
    let value = simp (to_z-of_z, c.ranges.moment) at c.series_part-series.ensures.value in
    let first = simp (to_z-of_z, scale, series) at c.scaled.ensures.value in
    let second = simp (to_z-of_z, base, factor) at c.scaled-2.ensures.value in
    simp (to_z-of_z, fits128 one tt, fits128 two tt, fits128 (within_add one two) tt)
    (rw (first, second, value, c.pattern_part-factor.ensures.value, c.as_slice.ensures, c.as_slice-2.ensures) refl)
