use Rattle.std.proofs.Common.{◌∙◌, ap}
use Rattle.inp_series.specs.CurveLines.{curve_form, fault_with}
use Rattle.inp_series.proofs.curves.CurveChainChain.item_fault.Goals as goal

pub returns : goal.returns
unfolding curve_form
returns c = λ own e. c.fault_of_line.ensures ∙ ap (λ s. fault_with s.first s.last c.args.line.now) e
