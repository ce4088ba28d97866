use Rattle.std.proofs.Common.{◌+◌, ◌≤◌, ◌∙◌, ◌∷◌, ap₂, sym, refl, subst, length, arith}
use Rattle.std.specs.Str.Lines.{lines}
use Rattle.std.proofs.lemmas.Bool.Decides.{nat_tests}
use Rattle.inp_lines.proofs.LineLemmas.{lines_last, first_cut}
use Rattle.inp_lines.proofs.TokenLemmas.{whole_rest}
use Rattle.inp_lines.proofs.split.first_line.Goals as goal

pub returns-then-end-input-clause-first : goal.returns-then-end-input-clause-first
returns-then-end-input-clause-first c =
    first_cut c.args.input.now c.place_of-end.result c.place_of-end.ensures.place c.if-end-input.true
    ∙ ap₂ (λ line below. line ∷ lines below) (sym c.without_return.ensures) (sym (whole_rest (c.place_of-end.result + 1) (length c.args.input.now) c.args.input.now refl))

pub returns-else-is_empty-clause-first : goal.returns-else-is_empty-clause-first
returns-else-is_empty-clause-first c =
    let empty = c.if-is_empty.ensures in
    let out = c.if-end-input.false in
    let place = c.place_of-end.ensures.place in
    lines_last c.args.input.now (grind (arith, nat_tests, empty)) (subst (λ n. length c.args.input.now ≤ n) place out)
