use Rattle.std.proofs.Common.{◌≡◌, ◌≢◌, ◌+◌, ◌∙◌, ap, ap₂, sym, refl, length, take, drop, get_or, rules}
use Rattle.std.specs.List.{position_or_len}
use Rattle.inp_lines.specs.Tokens.{is_quote}
use Rattle.inp_lines.proofs.TokenLemmas.{quoted_tokens, plain_tokens, no_tokens, whole_rest}
use Rattle.inp_lines.proofs.tokens.first_token.Goals as goal

pub returns-in-empty-clause-first : goal.returns-in-empty-clause-first
returns-in-empty-clause-first c = no_tokens c.args.text.now c.without_blanks.result.now c.without_blanks.ensures c.in-empty.len_below

pub returns-in-34-clause-first : goal.returns-in-34-clause-first
returns-in-34-clause-first c =
    let part = c.without_blanks.result.now in
    let quoted = whole_rest 1 (length part) part refl in
    let place = c.place_of.ensures.place ∙ ap (position_or_len is_quote) quoted in
    let first : get_or part 0 0 ≡ 34 = search rules in
    quoted_tokens c.args.text.now part c.cut_at.result.0.now c.cut_at.result.1.now (sym c.without_blanks.ensures) c.in-34.len_at_least first
    (c.cut_at.ensures.before ∙ ap₂ (λ n xs. take n xs) place quoted) (c.cut_at.ensures.behind ∙ ap₂ (λ n xs. drop (n + 1) xs) place quoted)

pub returns-in_default-clause-first : goal.returns-in_default-clause-first
returns-in_default-clause-first c =
    let part = c.without_blanks.result.now in
    let first : get_or part 0 0 ≢ 34 = search rules in
    plain_tokens c.args.text.now part c.cut_at-in_default.result.0.now c.cut_at-in_default.result.1.now (sym c.without_blanks.ensures) c.in_default.len_at_least first
    (c.cut_at-in_default.ensures.before ∙ ap (λ n. take n part) c.place_of_blank.ensures.place) (c.cut_at-in_default.ensures.behind ∙ ap (λ n. drop (n + 1) part) c.place_of_blank.ensures.place)
