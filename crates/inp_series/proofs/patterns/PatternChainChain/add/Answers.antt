use Rattle.std.proofs.Common.{◌≡◌, ◌∙◌, ◌++◌, ◌-◌, ◌∷◌, [], ap, ap₂, cond, drop, filter_map, length, option_map, sym}
use Rattle.std.specs.Option.{unwrap_or}
use Rattle.net_types.specs.declared.tables.PatternKind.TheVariants.{Monthly}
use Rattle.inp_lines.specs.Faults.{token_at}
use Rattle.inp_series.specs.PatternLines.{factor_items, factor_of, factors_left, items_in, kind_with, pattern_form, pattern_kind_in, pattern_kind_of}
use Rattle.inp_series.proofs.PushLemmas.{factors_push, first_push, left_is, left_push, pattern_kind_push}
use Rattle.inp_series.proofs.SameLemmas.{same_pattern, same_pattern_state}
use Rattle.inp_series.proofs.patterns.PatternChainChain.add.Goals as goal

pub returns-clause-record : goal.returns-clause-record
unfolding pattern_form
returns-clause-record c = λ name own p e.
    (let line = c.args.line.now in
    let kind : c.kind_with-kind.result ≡ pattern_kind_in (own ++ line ∷ []) = c.kind_with-kind.ensures ∙ (ap (λ s. cond s.first (pattern_kind_of (token_at line.tokens 1)) s.kind) e ∙ sym (pattern_kind_push own line)) in
    let items : c.factors_of-factors.result.now ≡ factor_items own line = c.factors_of-factors.ensures ∙ ap (λ s. drop (cond s.first 2 1) line.tokens) e in
    same_pattern _ _ (ap (λ m. m.name) p)
    (c.kind_or_monthly-made.ensures ∙ ap (λ k. unwrap_or k Monthly) kind)
    (c.in_ok-add_factors.ensures ∙ (ap₂ (λ l v. l ++ filter_map factor_of v) (ap (λ m. m.factors6) p) items ∙ sym (factors_push own line))))

pub returns-clause-state : goal.returns-clause-state
unfolding pattern_form
returns-clause-state c = λ own e.
    (let line = c.args.line.now in
    let kind : c.kind_with-kind.result ≡ kind_with own line = c.kind_with-kind.ensures ∙ ap (λ s. cond s.first (pattern_kind_of (token_at line.tokens 1)) s.kind) e in
    let left : c.left_with-left.result ≡ factors_left (kind_with own line) (length (items_in own)) = c.left_with-left.ensures ∙ (ap (λ s. cond s.first (factors_left c.kind_with-kind.result 0) s.left) e ∙ left_is own line c.kind_with-kind.result kind) in
    let items : c.factors_of-factors.result.now ≡ factor_items own line = c.factors_of-factors.ensures ∙ ap (λ s. drop (cond s.first 2 1) line.tokens) e in
    same_pattern_state _ _ (sym (first_push own line)) (kind ∙ sym (pattern_kind_push own line))
    (c.less.ensures ∙ (ap₂ (λ o n. option_map (λ left. left - n) o) left (ap length items) ∙ sym (left_push own line))))
