use Rattle.std.proofs.Common.{◌/◌, ◌∙◌, ap, cond, drop, length}
use Rattle.inp_series.specs.CurveLines.{curve_form}
use Rattle.inp_series.proofs.curves.CurveChainChain.size.Goals as goal

pub returns : goal.returns
unfolding curve_form
returns c = λ own e. c.size_of.ensures ∙ ap (λ s. length (drop (cond s.first 2 1) c.args.line.now.tokens) / 2) e
