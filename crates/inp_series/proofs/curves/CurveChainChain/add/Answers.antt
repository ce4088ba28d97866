use Rattle.std.proofs.Common.{◌≡◌, ◌∙◌, ◌++◌, ◌∷◌, [], ap, ap₂, cond, drop, sym}
use Rattle.std.specs.List.{last_or}
use Rattle.std.specs.Option.{unwrap_or}
use Rattle.net_types.specs.declared.tables.CurveKind.TheVariants.{Storage}
use Rattle.inp_lines.specs.Faults.{token_at}
use Rattle.inp_series.specs.declared.pairs.Axis.TheVariants.{Amounts}
use Rattle.inp_series.specs.Pairs.{values_of, xs_of}
use Rattle.inp_series.specs.CurveLines.{curve_form, curve_pairs, kind_in, kind_of}
use Rattle.inp_series.proofs.PushLemmas.{first_push, kind_push, points_push, xs_push}
use Rattle.inp_series.proofs.SameLemmas.{same_curve, same_curve_state}
use Rattle.inp_series.proofs.curves.CurveChainChain.add.Goals as goal

pub returns-clause-record : goal.returns-clause-record
unfolding curve_form
returns-clause-record c = λ name own p e.
    (let line = c.args.line.now in
    let kind : c.kind_with-kind.result ≡ kind_in (own ++ line ∷ []) = c.kind_with-kind.ensures ∙ (ap (λ s. cond s.first (kind_of (token_at line.tokens 1)) s.kind) e ∙ sym (kind_push own line)) in
    let pairs : c.pairs_of-pairs.result.now ≡ curve_pairs own line = c.pairs_of-pairs.ensures ∙ ap (λ s. drop (cond s.first 2 1) line.tokens) e in
    same_curve _ _ (ap (λ m. m.name) p)
    (c.kind_or_storage-made.ensures ∙ ap (λ k. unwrap_or k Storage) kind)
    (c.in_ok-add_pairs.ensures ∙ (ap₂ (λ l v. l ++ values_of Amounts v) (ap (λ m. m.points) p) pairs ∙ sym (points_push own line))))

pub returns-clause-state : goal.returns-clause-state
unfolding curve_form
returns-clause-state c = λ own e.
    (let line = c.args.line.now in
    let kind : c.kind_with-kind.result ≡ kind_in (own ++ line ∷ []) = c.kind_with-kind.ensures ∙ (ap (λ s. cond s.first (kind_of (token_at line.tokens 1)) s.kind) e ∙ sym (kind_push own line)) in
    let pairs : c.pairs_of-pairs.result.now ≡ curve_pairs own line = c.pairs_of-pairs.ensures ∙ ap (λ s. drop (cond s.first 2 1) line.tokens) e in
    same_curve_state _ _ (sym (first_push own line)) kind
    (c.last_x.ensures ∙ (ap₂ (λ o v. last_or o (xs_of Amounts v)) (ap (λ s. s.last) e) pairs ∙ sym (xs_push own line))))
