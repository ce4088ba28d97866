use Rattle.std.proofs.Common.{◌≡◌, ◌+◌, ◌-ℤ◌, ℤ, pos, FitsSigned, ap, subst, ◌∙◌, rules, arith}
use Rattle.std.specs.Int.{w64}
use Rattle.std.proofs.lemmas.Int.{ints, to_z-of_z}
use Rattle.fixed_num.specs.Interpolation.{lerp_of}
use Rattle.xsect_tables.proofs.LookUpLemmas.{moved, run_within}
use Rattle.xsect_tables.specs.SectionTable.{entry}
use Rattle.xsect_tables.specs.LookUps.{value_at as value_of}
use Rattle.xsect_tables.proofs.look_up.value_at.Goals as goal

pub line_at-requires-clause-small : goal.line_at-requires-clause-small
line_at-requires-clause-small c =
    let run = run_within c.requires.grid c.requires.around.strip in
    omega (arith, ints, run.to, c.requires.around.run)

pub returns : goal.returns
unfolding value_of
returns c =
    let i = c.args.place.now.strip in
    let x0 = entry c.args.heights.now i in
    let x1 = entry c.args.heights.now (i + 1) in
    let low : FitsSigned w64 (entry c.args.row.now i) = search rules in
    let high : FitsSigned w64 (entry c.args.row.now (i + 1)) = search rules in
    let result : FitsSigned w64 c.line_at.result = search rules in
    let value = simp (to_z-of_z, low, high) at c.line_at.ensures in
    let part = c.requires.around.part in
    let run = c.requires.around.run in
    simp (to_z-of_z, result) (value ∙ (λ j. lerp_of (pos 0) (entry c.args.row.now i) (run j) (entry c.args.row.now (i + 1)) (part j)) ∙ moved x0 (entry c.args.row.now i) x1 (entry c.args.row.now (i + 1)) c.args.place.now.depth)
