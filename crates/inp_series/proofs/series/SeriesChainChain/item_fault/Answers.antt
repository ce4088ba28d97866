use Rattle.std.proofs.Common.{◌∙◌, ap, ap₂, sym, FitsSigned, arith}
use Rattle.std.specs.Int.{w64}
use Rattle.std.specs.Option.{option_or}
use Rattle.std.proofs.lemmas.Int.{ints, to_z-of_z}
use Rattle.fixed_num.specs.Ranges.{IsMoment}
use Rattle.inp_series.specs.SeriesLines.{date_at, fault_with, series_form}
use Rattle.inp_series.proofs.PushLemmas.{date_push}
use Rattle.inp_series.proofs.series.SeriesChainChain.item_fault.Goals as goal

pub returns : goal.returns
unfolding series_form
returns c = λ own e.
    (let start = c.args.self.now.start in
    let line = c.args.line.now in
    let moment : IsMoment start = c.requires in
    let fits : FitsSigned w64 start = omega (arith, ints, moment.from, moment.to) in
    c.fault_of_line.ensures
    ∙ (ap (λ s. fault_with s c.date_with.result c.args.state.last line) (to_z-of_z w64 start fits)
    ∙ ap₂ (λ d l. fault_with start d l line)
    (c.date_with.ensures ∙ (ap (λ s. option_or (date_at line) s.date) e ∙ sym (date_push own line))) (ap (λ s. s.last) e)))
