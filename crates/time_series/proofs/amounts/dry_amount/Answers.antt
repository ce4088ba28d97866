use Rattle.std.proofs.Common.{rules, ◌≡◌, ◌^◌, ◌<◌, ◌≤◌, ◌∙◌, FitsSigned, ap, sym, subst, length, arith, ℤ, ◌+ℤ◌, to_z}
use Rattle.std.specs.Int.{w64, w128}
use Rattle.std.proofs.lemmas.Int.{to_z-of_z}
use Rattle.fixed_num.specs.Ranges.{IsWithin}
use Rattle.fixed_num.proofs.Bounds.{fits128}
use Rattle.time_series.proofs.AmountLemmas.{coefficient_raw, changed_more, changed_all, changed_small, changed_most}
use Rattle.time_series.proofs.amounts.dry_amount.Goals as goal

pub times6-amount-requires-clause-factor : goal.times6-amount-requires-clause-factor
times6-amount-requires-clause-factor c =
    let fits : FitsSigned w64 c.line_factor.result = search rules in
    simp (to_z-of_z, fits) (coefficient_raw c.line_factor.ensures.range)

pub times6-amount-requires-clause-amount : goal.times6-amount-requires-clause-amount
times6-amount-requires-clause-amount c =
    let few : c.loop-number.number-index < 4 = omega (
      arith,
      c.loop-number-test.true,
      ap length
          c.as_slice-numbers.ensures,
      c.requires.range.few,
    ) in
    changed_small c.loop-number.invariant few

pub loop-number-preserved : goal.loop-number-preserved
loop-number-preserved c =
    let few : c.loop-number.number-index < 4 = omega (
      arith,
      c.loop-number-test.true,
      ap length
          c.as_slice-numbers.ensures,
      c.requires.range.few,
    ) in
    let small = changed_small c.loop-number.invariant few in
    let fits : FitsSigned w128 c.times6-amount.result = search rules in
    let factor : FitsSigned w64 c.line_factor.result = search rules in
    let is = simp (to_z-of_z, fits128 small tt, factor) at c.times6-amount.ensures in
    simp (to_z-of_z, fits) (changed_more c.loop-number.invariant c.times6-amount.result c.line_factor.result
    c.loop-number-test.true c.line_factor.ensures.value c.line_factor.ensures.range is)

pub returns-clause-value : goal.returns-clause-value
returns-clause-value c =
    changed_all c.args.dry.now c.loop-number.invariant c.loop-number-test.false c.as_slice-numbers.ensures
    c.has_weekends-beside.ensures

pub returns-clause-range : goal.returns-clause-range
returns-clause-range c =
    let few : c.loop-number.number-index ≤ 4 = omega (
      arith,
      ap length c.as_slice-numbers.ensures,
      c.requires.range.few,
    ) in
    changed_most c.loop-number.invariant few
