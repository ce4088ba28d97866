use Rattle.std.proofs.Common.{rules, ◌≡◌, ◌∙◌, ◌*◌, ◌/◌, ◌<◌, ◌^◌, ◌*ℤ◌, ℕ, ℤ, pos, unsigned_abs, ap, subst, sym, arith, FitsSigned, w64, to_z, of_z}
use Rattle.std.specs.Int.{int_max, int_min}
use Rattle.std.proofs.lemmas.Int.{to_z-of_z, to_z_pos}
use Rattle.fixed_num.specs.Ranges.{cut_of, IsBetween, IsEven}
use Rattle.run_engine.specs.Times.{shortest_of, travel_part_of}
use Rattle.run_engine.proofs.TimeLemmas.{travel_fits, travel_part_even, travel_part_in}
use Rattle.run_engine.proofs.times.travel_part.Goals as goal

pub overflow_mul-options : goal.overflow_mul-options
overflow_mul-options c =
    let part : FitsSigned w64 c.args.options.now.variable6 = search rules in
    simp (to_z-of_z, part, c.ranges.least) (travel_fits c.requires.options c.requires.least)

pub returns-clause-value : goal.returns-clause-value
unfolding travel_part_of cut_of
returns-clause-value c =
    let least : FitsSigned w64 c.min.result = search rules in
    let most : FitsSigned w64 c.max.result = search rules in
    let step : FitsSigned w64 c.args.options.now.step_ms = search rules in
    let part : FitsSigned w64 c.args.options.now.variable6 = search rules in
    let short : FitsSigned w64 c.shortest.result = search rules in
    let product = travel_fits c.requires.options c.requires.least in
    let n = c.unsigned_abs-half.result in
    let few : 2 * (n / 2_000_000) < 2 ^ 63 = omega (arith, c.unsigned_abs-half.ensures.bound) in
    let half = to_z_pos w64 (2 * (n / 2_000_000)) few in
    let travel : n ≡ unsigned_abs (c.args.options.now.variable6 *ℤ c.args.least) =
    simp (to_z-of_z, part, c.ranges.least, product) at c.unsigned_abs-half.ensures.value in
    let low = simp (to_z-of_z, most, step) at c.min.ensures.value in
    let shortest = to_z-of_z w64 _ short ∙ c.shortest.ensures.value in
    let high : c.max.result ≡ int_max (pos (2 * (n / 2_000_000))) (shortest_of c.args.options.now) =
    c.max.ensures.value
    ∙ ap (λ (z : ℤ). int_max z (to_z w64 (of_z w64 c.shortest.result))) half
    ∙ ap (λ (z : ℤ). int_max (pos (2 * (n / 2_000_000))) z) shortest in
    to_z-of_z w64 _ least ∙ low
    ∙ ap (λ (z : ℤ). int_min z c.args.options.now.step_ms) (high ∙ ap (λ (m : ℕ). int_max (pos (2 * (m / 2_000_000))) (shortest_of c.args.options.now)) travel)

pub returns-clause-range : goal.returns-clause-range
returns-clause-range c = subst (λ (z : ℤ). IsBetween (pos 0) z c.args.options.now.step_ms) (sym (returns-clause-value c)) (travel_part_in c.requires.options c.args.least)

pub returns-clause-even : goal.returns-clause-even
returns-clause-even c = subst IsEven (sym (returns-clause-value c)) (travel_part_even c.requires.options c.args.least)
