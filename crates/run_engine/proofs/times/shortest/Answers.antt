use Rattle.std.proofs.Common.{rules, ◌≡◌, ◌∙◌, ◌+◌, ◌*◌, ◌/◌, ◌<◌, ◌^◌, ℕ, ℤ, pos, unsigned_abs, ap, subst, sym, arith, FitsSigned, w64}
use Rattle.std.specs.Int.{int_max, int_min}
use Rattle.std.proofs.lemmas.Int.{to_z-of_z, to_z_pos}
use Rattle.fixed_num.specs.Ranges.{IsBetween, IsEven}
use Rattle.run_engine.specs.Times.{duration_of, shortest_of}
use Rattle.run_engine.proofs.TimeLemmas.{shortest_even, shortest_in}
use Rattle.run_engine.proofs.times.shortest.Goals as goal

pub returns-clause-value : goal.returns-clause-value
unfolding shortest_of
returns-clause-value c =
    let least : FitsSigned w64 c.min.result = search rules in
    let most : FitsSigned w64 c.max.result = search rules in
    let step : FitsSigned w64 c.args.options.now.step_ms = search rules in
    let lasts : FitsSigned w64 c.duration.result = search rules in
    let n = c.unsigned_abs.result in
    let few : 2 * ((n + 99_999_999) / 100_000_000) < 2 ^ 63 = omega (arith, c.unsigned_abs.ensures.bound) in
    let share = to_z_pos w64 (2 * ((n + 99_999_999) / 100_000_000)) few in
    let days : n ≡ unsigned_abs (duration_of c.args.options.now) =
    c.unsigned_abs.ensures.value ∙ ap (λ (z : ℤ). unsigned_abs z) (to_z-of_z w64 _ lasts ∙ c.duration.ensures) in
    let low = simp (to_z-of_z, most, step) at c.min.ensures.value in
    let high = simp (share) at c.max.ensures.value in
    to_z-of_z w64 _ least ∙ low
    ∙ ap (λ (z : ℤ). int_min z c.args.options.now.step_ms) (high ∙ ap (λ (m : ℕ). int_max (pos (2 * ((m + 99_999_999) / 100_000_000))) (pos 500)) days)

pub returns-clause-range : goal.returns-clause-range
returns-clause-range c = subst (λ (z : ℤ). IsBetween (pos 0) z c.args.options.now.step_ms) (sym (returns-clause-value c)) (shortest_in c.requires)

pub returns-clause-even : goal.returns-clause-even
returns-clause-even c = subst IsEven (sym (returns-clause-value c)) (shortest_even c.requires)
