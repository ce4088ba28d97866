use Rattle.std.proofs.Common.{◌≡◌, ◌∙◌, ap, ap₂, cond, length}
use Rattle.inp_lines.specs.Faults.{token_at}
use Rattle.inp_series.specs.CurveLines.{is_first}
use Rattle.inp_series.specs.PatternLines.{factors_left, fault_with, items_in, kind_with, pattern_form, pattern_kind_of}
use Rattle.inp_series.proofs.PushLemmas.{left_is}
use Rattle.inp_series.proofs.patterns.PatternChainChain.item_fault.Goals as goal

pub returns : goal.returns
unfolding pattern_form
returns c = λ own e.
    (let line = c.args.line.now in
    let kind : c.kind_with-kind.result ≡ kind_with own line = c.kind_with-kind.ensures ∙ ap (λ s. cond s.first (pattern_kind_of (token_at line.tokens 1)) s.kind) e in
    let left : c.left_with-left.result ≡ factors_left (kind_with own line) (length (items_in own)) = c.left_with-left.ensures ∙ (ap (λ s. cond s.first (factors_left c.kind_with-kind.result 0) s.left) e ∙ left_is own line c.kind_with-kind.result kind) in
    c.fault_of_line.ensures ∙ (ap (λ s. fault_with s.first c.kind_with-kind.result c.left_with-left.result line) e ∙ ap₂ (λ k l. fault_with (is_first own) k l line) kind left))
