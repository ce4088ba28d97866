use Rattle.std.proofs.Common.{◌≡◌, ℕ, rules, arith, FitsSigned, ◌∙◌, subst, sym, length}
use Rattle.std.specs.Int.{w64}
use Rattle.std.proofs.lemmas.Int.{to_z-of_z}
use Rattle.rising_pairs.specs.FirstAbove.{IsFirstAbove}
use Rattle.rising_pairs.specs.Readings.{IsReading}
use Rattle.rising_pairs.proofs.ReadingLemmas.{front_is, middle_is, end_at_place, front_value, middle_value}
use Rattle.rising_pairs.proofs.ReadingLemmas.{end_value_is}
use Rattle.rising_pairs.proofs.readings.reading.Goals as goal

pub returns-then-above-eq0-clause-value : goal.returns-then-above-eq0-clause-value
returns-then-above-eq0-clause-value c =
    let place = simp (to_z-of_z, c.ranges.key) at c.first_above-above.ensures.value in
    let front = sym c.if-above-eq0.true ∙ place in
    simp (to_z-of_z, c.ranges.below) (front_value c.args.pairs.now c.args.key c.args.below c.args.beyond front)

pub returns-then-above-eq0-clause-reading : goal.returns-then-above-eq0-clause-reading
returns-then-above-eq0-clause-reading c =
    let parts = simp (to_z-of_z, c.ranges.key) at c.first_above-above.ensures.parts in
    let front = subst (IsFirstAbove c.args.pairs.now c.args.key) c.if-above-eq0.true parts in
    simp (to_z-of_z, c.ranges.below) (front_is c.args.pairs.now c.args.key c.args.below c.args.beyond c.requires.some
    front)

pub returns-then-above-pairs-clause-value : goal.returns-then-above-pairs-clause-value
returns-then-above-pairs-clause-value c =
    let fits : FitsSigned w64 c.line_at.result = search rules in
    let place = simp (to_z-of_z, c.ranges.key) at c.first_above-above.ensures.value in
    let line = simp (to_z-of_z, c.ranges.key) at c.line_at.ensures in
    simp (to_z-of_z, fits)
    (line ∙ middle_value c.args.pairs.now c.args.key c.args.below c.args.beyond c.first_above-above.result place
    (omega arith) c.if-above-pairs.true)

pub returns-then-above-pairs-clause-reading : goal.returns-then-above-pairs-clause-reading
returns-then-above-pairs-clause-reading c =
    let fits : FitsSigned w64 c.line_at.result = search rules in
    let parts = simp (to_z-of_z, c.ranges.key) at c.first_above-above.ensures.parts in
    let line = simp (to_z-of_z, c.ranges.key) at c.line_at.ensures in
    let pairs = c.args.pairs.now in
    simp (to_z-of_z, fits)
    (subst (IsReading pairs c.args.key c.args.below c.args.beyond) (sym line)
    (middle_is pairs c.args.key c.args.below c.args.beyond c.first_above-above.result (omega arith)
    c.if-above-pairs.true c.requires.rising parts))

pub returns-clause-value : goal.returns-clause-value
returns-clause-value c =
    let fits : FitsSigned w64 c.end_value.result = search rules in
    let place = simp (to_z-of_z, c.ranges.key) at c.first_above-above.ensures.value in
    let last = simp (to_z-of_z, c.ranges.key, c.ranges.beyond) at c.end_value.ensures in
    simp (to_z-of_z, fits)
    (last ∙ end_value_is c.args.pairs.now c.args.key c.args.below c.args.beyond c.first_above-above.result place
    (omega arith) c.if-above-pairs.false)

pub returns-clause-reading : goal.returns-clause-reading
returns-clause-reading c =
    let fits : FitsSigned w64 c.end_value.result = search rules in
    let parts = simp (to_z-of_z, c.ranges.key) at c.first_above-above.ensures.parts in
    let last = simp (to_z-of_z, c.ranges.key, c.ranges.beyond) at c.end_value.ensures in
    let pairs = c.args.pairs.now in
    let whole : c.first_above-above.result ≡ length pairs = omega (arith, parts.within) in
    simp (to_z-of_z, fits)
    (subst (IsReading pairs c.args.key c.args.below c.args.beyond) (sym last)
    (end_at_place pairs c.args.key c.args.below c.args.beyond c.first_above-above.result whole c.requires.some
    c.requires.rising parts))
