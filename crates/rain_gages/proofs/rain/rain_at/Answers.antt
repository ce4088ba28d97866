use Rattle.std.proofs.Common.{rules, arith, FitsSigned, ◌∙◌, sym}
use Rattle.std.specs.Int.{w64}
use Rattle.std.proofs.lemmas.Int.{to_z-of_z}
use Rattle.rain_gages.proofs.RainLemmas.{before_all, of_last}
use Rattle.rain_gages.proofs.rain.rain_at.Goals as goal

pub returns-then-later-eq0-clause-value : goal.returns-then-later-eq0-clause-value
returns-then-later-eq0-clause-value c =
    let place = simp (to_z-of_z, c.ranges.moment) at c.first_above-later.ensures.value in
    before_all c.args.entries.now c.args.interval c.args.moment (sym c.if-later-eq0.true ∙ place)

pub returns-clause-value : goal.returns-clause-value
returns-clause-value c =
    let fits : FitsSigned w64 c.young_value.result = search rules in
    let place = simp (to_z-of_z, c.ranges.moment) at c.first_above-later.ensures.value in
    let young = simp (to_z-of_z, c.ranges.moment, c.ranges.interval) at c.young_value.ensures.value in
    simp (to_z-of_z, fits)
    (young ∙ of_last c.args.entries.now c.args.interval c.args.moment c.first_above-later.result place (omega arith))
