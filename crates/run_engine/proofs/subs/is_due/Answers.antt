use Rattle.std.proofs.Common.{rules, ◌≡◌, ◌∙◌, ℤ, ◌+ℤ◌, int_le, ap, arith, FitsSigned, w64, of_z, to_z}
use Rattle.std.proofs.lemmas.Int.{ints, to_z-of_z}
use Rattle.run_engine.proofs.subs.is_due.Goals as goal

pub returns : goal.returns
returns c =
    let wet = c.requires.project.sound.options.wet_in in
    let begin_now = c.args.begin in
    let ms_now = c.args.project.now.options.wet_ms in
    let begin : FitsSigned w64 begin_now = c.ranges.begin in
    let ms : FitsSigned w64 ms_now = search rules in
    let end : FitsSigned w64 (begin_now +ℤ ms_now) =
    omega (arith, ints, c.requires.begun.from, c.requires.begun.to, c.requires.moment, wet.from, wet.to) in
    let moved : to_z w64 (of_z w64 (to_z w64 (of_z w64 begin_now) +ℤ to_z w64 (of_z w64 ms_now))) ≡ begin_now +ℤ ms_now =
    ap (λ (b : ℤ). to_z w64 (of_z w64 (b +ℤ to_z w64 (of_z w64 ms_now)))) (to_z-of_z w64 begin_now begin)
    ∙ ap (λ (m : ℤ). to_z w64 (of_z w64 (begin_now +ℤ m))) (to_z-of_z w64 ms_now ms)
    ∙ to_z-of_z w64 _ end in
    ap (λ (e : ℤ). int_le e (to_z w64 (of_z w64 c.args.moment))) moved
    ∙ ap (λ (m : ℤ). int_le (begin_now +ℤ ms_now) m) (to_z-of_z w64 c.args.moment c.ranges.moment)
