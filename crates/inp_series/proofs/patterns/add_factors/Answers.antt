use Rattle.std.proofs.Common.{◌++◌, ◌∙◌, ap, filter_map, option_to_list, append-nil, sym}
use Rattle.inp_series.specs.PatternLines.{factor_of}
use Rattle.inp_series.proofs.LoopLemmas.{values_of_step}
use Rattle.inp_series.proofs.patterns.add_factors.Goals as goal

pub loop-text-preserved : goal.loop-text-preserved
loop-text-preserved c =
    ap (λ l. l ++ filter_map factor_of c.in-Some.more.now) (c.in_ok-add_factor.ensures ∙ ap (λ o. c.loop-text.factors ++ option_to_list o) c.factor.ensures)
    ∙ (values_of_step c.loop-text.factors c.loop-text.rest.now c.in-Some.text.now c.in-Some.more.now c.in-Some.ensures ∙ c.loop-text.invariant)

pub returns : goal.returns
returns c = sym (append-nil c.loop-text.factors) ∙ (ap (λ l. c.loop-text.factors ++ filter_map factor_of l) (sym c.in_default.ensures) ∙ c.loop-text.invariant)
