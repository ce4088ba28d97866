use Rattle.std.proofs.Common.{◌-◌, ◌∙◌, ap, cond, length}
use Rattle.inp_series.specs.CurveLines.{curve_form}
use Rattle.inp_series.specs.Pairs.{are_no_pairs}
use Rattle.inp_series.proofs.curves.CurveChainChain.is_short.Goals as goal

pub returns : goal.returns
unfolding curve_form
returns c = λ own e. c.is_short_line.ensures ∙ ap (λ s. are_no_pairs (length c.args.line.now.tokens - cond s.first 2 1)) e
