use Rattle.std.proofs.Common.{rules, ◌≡◌, ◌^◌, ◌<◌, ◌∙◌, FitsSigned, sym, subst, ap, arith, length, List, ℤ}
use Rattle.std.specs.Int.{w64}
use Rattle.std.specs.List.{All}
use Rattle.std.proofs.lemmas.Int.{to_z-of_z}
use Rattle.fixed_num.specs.Ranges.{IsWithin}
use Rattle.net_types.specs.Ranges.{CurveInRange}
use Rattle.rising_pairs.specs.Readings.{held_value}
use Rattle.time_series.proofs.SeriesLemmas.{curve_value-within}
use Rattle.time_series.proofs.stages.tide.Goals as goal

pub returns-clause-range : goal.returns-clause-range
returns-clause-range c =
    let fits : FitsSigned w64 c.held_reading.result = search rules in
    let key : FitsSigned w64 c.hour6.result = search rules in
    let found = c.index-as_slice-curve.result in
    let inside : c.args.curve < length c.as_slice.result.now =
    omega (arith, ap length c.as_slice.ensures, c.requires.curve) in
    let all = subst (All CurveInRange) (sym c.as_slice.ensures) c.requires.sound.ranges.curves in
    let curve = subst CurveInRange (sym c.index-as_slice-curve.is) (all c.args.curve found inside) in
    let value = simp (to_z-of_z, key) at c.held_reading.ensures in
    let is = value ∙ ap (λ (xs : List (ℤ × ℤ)). held_value xs c.hour6.result) c.as_slice-2.ensures in
    simp (to_z-of_z, fits) (subst (IsWithin (10 ^ 15)) (sym is) (curve_value-within curve c.hour6.result))
