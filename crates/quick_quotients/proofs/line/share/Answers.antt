use Rattle.std.proofs.Common.{◌≡◌, ◌*◌, ◌≤◌, ◌^◌, ◌<◌, pos, ap, sym, subst, ◌∙◌, arith}
use Rattle.std.specs.Int.{w64}
use Rattle.std.proofs.lemmas.Int.{ints, to_z_pos}
use Rattle.fixed_num.specs.Ranges.{IsBetween}
use Rattle.quick_quotients.proofs.LineLemmas.{share_most}
use Rattle.quick_quotients.proofs.line.share.Goals as goal
use Rattle.quick_quotients.proofs.line.share.Goals.{After-nearest}

most : (c : After-nearest) → c.nearest.result ≤ c.args.rise
most c = omega (arith, c.nearest.ensures, share_most c.args.rise c.args.part c.args.run c.requires.part)

pub overflow_cast-result : goal.overflow_cast-result
overflow_cast-result c = omega (arith, ints, most (goal.at.overflow_cast-result c).After-nearest, c.requires.rise)

pub returns-clause-value : goal.returns-clause-value
returns-clause-value c =
    let small = most (goal.at.returns-clause-value c).After-nearest in
    to_z_pos w64 c.nearest.result (omega (arith, small, c.requires.rise)) ∙ ap pos c.nearest.ensures

pub returns-clause-range : goal.returns-clause-range
returns-clause-range c =
    let small = most (goal.at.returns-clause-range c).After-nearest in
    subst (λ z. IsBetween (pos 0) z (pos c.args.rise)) (sym (to_z_pos w64 c.nearest.result (omega (arith, small, c.requires.rise))))
    (record { from = omega (arith, ints); to = omega (arith, ints, small) })
