use Rattle.std.proofs.Common.{rules, ◌≡◌, ◌^◌, ◌∙◌, FitsSigned, sym, subst, ap, pos, List, ℤ, true, false}
use Rattle.std.specs.Int.{w64}
use Rattle.std.proofs.lemmas.Int.{to_z-of_z}
use Rattle.fixed_num.specs.Ranges.{IsWithin}
use Rattle.time_series.specs.SeriesValues.{series_value}
use Rattle.time_series.proofs.SeriesLemmas.{zero_outside, held_outside, series_value-within}
use Rattle.time_series.proofs.series.value_between.Goals as goal

zero : (c : goal.After-reading) → c.reading.result ≡ series_value c.args.series.now.entries c.args.moment
    c.args.outside_zero
zero c =
    let is = simp (to_z-of_z, c.ranges.moment, c.as_slice-entries.ensures) at c.reading.ensures.value in
    is ∙ zero_outside _ _ _ c.if-outside_zero.true

held : (c : goal.After-held_reading) → c.held_reading.result ≡ series_value c.args.series.now.entries c.args.moment
    c.args.outside_zero
held c =
    let is = simp (to_z-of_z, c.ranges.moment, c.as_slice-entries.ensures) at c.held_reading.ensures in
    is ∙ held_outside _ _ _ c.if-outside_zero.false

pub returns-then-outside_zero-clause-value : goal.returns-then-outside_zero-clause-value
returns-then-outside_zero-clause-value c =
    let fits : FitsSigned w64 c.reading.result = search rules in
    simp (to_z-of_z, fits) (zero c)

pub returns-then-outside_zero-clause-range : goal.returns-then-outside_zero-clause-range
returns-then-outside_zero-clause-range c =
    let fits : FitsSigned w64 c.reading.result = search rules in
    simp (to_z-of_z, fits) (subst (IsWithin (10 ^ 15)) (sym (zero c))
    (series_value-within c.requires c.args.moment c.args.outside_zero))

pub returns-clause-value : goal.returns-clause-value
returns-clause-value c =
    let fits : FitsSigned w64 c.held_reading.result = search rules in
    simp (to_z-of_z, fits) (held c)

pub returns-clause-range : goal.returns-clause-range
returns-clause-range c =
    let fits : FitsSigned w64 c.held_reading.result = search rules in
    simp (to_z-of_z, fits) (subst (IsWithin (10 ^ 15)) (sym (held c))
    (series_value-within c.requires c.args.moment c.args.outside_zero))
