use Rattle.std.proofs.Common.{◌∙◌, ap}
use Rattle.std.specs.List.{last_or}
use Rattle.std.specs.Option.{option_or}
use Rattle.inp_series.specs.Pairs.{xs_of}
use Rattle.inp_series.proofs.LoopLemmas.{last_end, last_step}
use Rattle.inp_series.proofs.pairs.last_x.Goals as goal

pub loop-x-preserved : goal.loop-x-preserved
loop-x-preserved c =
    ap (λ o. last_or o (xs_of c.args.axis c.in-Some.more.now)) (c.later-last.ensures ∙ ap (λ a. option_or a c.loop-x.last) c.x_value.ensures)
    ∙ (last_step c.args.axis c.loop-x.last c.loop-x.rest.now c.in-Some.x.now _ c.in-Some.more.now c.in-Some.ensures ∙ c.loop-x.invariant)

pub returns : goal.returns
returns c = last_end c.args.axis c.loop-x.last c.loop-x.rest.now c.in_default.ensures ∙ c.loop-x.invariant
