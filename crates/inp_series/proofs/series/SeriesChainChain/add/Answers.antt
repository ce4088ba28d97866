use Rattle.std.proofs.Common.{◌≡◌, ◌∙◌, ◌++◌, ◌&&◌, ◌∷◌, [], ap, ap₂, is_some, sym, FitsSigned, arith}
use Rattle.std.specs.Int.{w64}
use Rattle.std.specs.List.{last_or}
use Rattle.std.specs.Option.{option_or}
use Rattle.std.proofs.lemmas.Int.{ints, to_z-of_z}
use Rattle.fixed_num.specs.Ranges.{IsMoment}
use Rattle.inp_series.specs.declared.pairs.Axis.TheVariants.{Hours}
use Rattle.inp_series.specs.Pairs.{values_of, xs_of}
use Rattle.inp_series.specs.SeriesLines.{date_at, date_in, series_form}
use Rattle.inp_series.proofs.PushLemmas.{date_push, dated_push, entries_push, times_push}
use Rattle.inp_series.proofs.SameLemmas.{same_series, same_series_state}
use Rattle.inp_series.proofs.series.SeriesChainChain.add.Goals as goal

pub returns-clause-record : goal.returns-clause-record
unfolding series_form
returns-clause-record c = λ name own p e.
    (let start = c.args.self.now.start in
    let line = c.args.line.now in
    let moment : IsMoment start = c.requires in
    let fits : FitsSigned w64 start = omega (arith, ints, moment.from, moment.to) in
    let date : c.date_with-date.result ≡ date_in (own ++ line ∷ []) = c.date_with-date.ensures ∙ (ap (λ s. option_or (date_at line) s.date) e ∙ sym (date_push own line)) in
    same_series _ _ (ap (λ m. m.name) p)
    (c.both-made.ensures ∙ (ap₂ (λ a b. a && b) (ap (λ m. m.dated) p) (c.is_some.ensures ∙ ap is_some date) ∙ sym (dated_push own line)))
    (c.in_ok-add_pairs.ensures
    ∙ (ap (λ s. c.args.made.now.entries ++ values_of (Hours s c.date_with-date.result) c.pairs_of-pairs.result.now) (to_z-of_z w64 start fits)
    ∙ (ap₂ (λ l v. l ++ v) (ap (λ m. m.entries) p) (ap₂ (λ d l. values_of (Hours start d) l) date c.pairs_of-pairs.ensures) ∙ sym (entries_push start own line)))))

pub returns-clause-state : goal.returns-clause-state
unfolding series_form
returns-clause-state c = λ own e.
    (let start = c.args.self.now.start in
    let line = c.args.line.now in
    let moment : IsMoment start = c.requires in
    let fits : FitsSigned w64 start = omega (arith, ints, moment.from, moment.to) in
    let date : c.date_with-date.result ≡ date_in (own ++ line ∷ []) = c.date_with-date.ensures ∙ (ap (λ s. option_or (date_at line) s.date) e ∙ sym (date_push own line)) in
    same_series_state _ _ date
    (c.last_x.ensures
    ∙ (ap (λ s. last_or c.args.state.last (xs_of (Hours s c.date_with-date.result) c.pairs_of-pairs.result.now)) (to_z-of_z w64 start fits)
    ∙ (ap₂ (λ o v. last_or o v) (ap (λ s. s.last) e) (ap₂ (λ d l. xs_of (Hours start d) l) date c.pairs_of-pairs.ensures) ∙ sym (times_push start own line)))))
