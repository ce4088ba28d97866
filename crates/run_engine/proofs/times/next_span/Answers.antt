use Rattle.std.proofs.Common.{rules, ◌≡◌, ◌∙◌, ◌+ℤ◌, ◌-ℤ◌, ℤ, ap, sym, subst, FitsSigned, w64, to_z, of_z}
use Rattle.std.specs.Int.{int_min}
use Rattle.std.proofs.lemmas.Int.{to_z-of_z}
use Rattle.run_engine.specs.Times.{IsRunStep, duration_of, length_of}
use Rattle.run_engine.proofs.TimeLemmas.{finish_fits, rest_fits, step_in}
use Rattle.run_engine.proofs.times.next_span.Goals as goal
use Rattle.run_engine.proofs.times.next_span.Goals.{After-min-length}

value : (c : After-min-length) → c.min-length.result ≡ length_of c.args.options.now c.args.moment c.args.least
unfolding length_of
value c =
    let wanted : FitsSigned w64 c.wanted.result = search rules in
    let lasts : FitsSigned w64 c.duration.result = search rules in
    let rest = rest_fits c.requires.options c.requires.moment c.args.least in
    let left : to_z w64 (of_z w64 c.duration.result) -ℤ to_z w64 (of_z w64 c.args.moment) ≡ duration_of c.args.options.now -ℤ c.args.moment =
    ap (λ (z : ℤ). z -ℤ to_z w64 (of_z w64 c.args.moment)) (to_z-of_z w64 _ lasts ∙ c.duration.ensures)
    ∙ ap (λ (z : ℤ). duration_of c.args.options.now -ℤ z) (to_z-of_z w64 _ c.ranges.moment) in
    let cut : to_z w64 (of_z w64 (to_z w64 (of_z w64 c.duration.result) -ℤ to_z w64 (of_z w64 c.args.moment))) ≡ duration_of c.args.options.now -ℤ c.args.moment =
    ap (λ (z : ℤ). to_z w64 (of_z w64 z)) left ∙ to_z-of_z w64 _ rest in
    let want = simp (to_z-of_z, c.ranges.least) at c.wanted.ensures.value in
    c.min-length.ensures.value
    ∙ ap (λ (z : ℤ). int_min (to_z w64 (of_z w64 c.wanted.result)) z) cut
    ∙ ap (λ (z : ℤ). int_min z (duration_of c.args.options.now -ℤ c.args.moment)) (to_z-of_z w64 _ wanted ∙ want)

pub returns-clause-length : goal.returns-clause-length
returns-clause-length c =
    let fits : FitsSigned w64 c.min-length.result = search rules in
    to_z-of_z w64 _ fits ∙ value c

pub returns-clause-finish : goal.returns-clause-finish
returns-clause-finish c =
    let fits : FitsSigned w64 c.min-length.result = search rules in
    let sum : to_z w64 (of_z w64 c.args.moment) +ℤ to_z w64 (of_z w64 c.min-length.result) ≡ c.args.moment +ℤ length_of c.args.options.now c.args.moment c.args.least =
    ap (λ (z : ℤ). z +ℤ to_z w64 (of_z w64 c.min-length.result)) (to_z-of_z w64 _ c.ranges.moment)
    ∙ ap (λ (z : ℤ). c.args.moment +ℤ z) (to_z-of_z w64 _ fits ∙ value c) in
    ap (λ (z : ℤ). to_z w64 (of_z w64 z)) sum ∙ to_z-of_z w64 _ (finish_fits c.requires.options c.requires.moment c.args.least)

pub returns-clause-range : goal.returns-clause-range
returns-clause-range c =
    let step = step_in c.requires.options c.requires.moment c.args.least in
    subst (λ (z : ℤ). IsRunStep c.args.options.now z (to_z w64 (of_z w64 c.min-length.result))) (sym (returns-clause-finish c))
    (subst (λ (z : ℤ). IsRunStep c.args.options.now (c.args.moment +ℤ length_of c.args.options.now c.args.moment c.args.least) z) (sym (returns-clause-length c)) step)
