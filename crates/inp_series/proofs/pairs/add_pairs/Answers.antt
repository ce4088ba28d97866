use Rattle.std.proofs.Common.{◌++◌, ◌∙◌, ap, ap₂}
use Rattle.inp_series.specs.Pairs.{pair_of, values_of}
use Rattle.inp_series.proofs.LoopLemmas.{values_end, values_step}
use Rattle.inp_series.proofs.pairs.add_pairs.Goals as goal

pub loop-x-preserved : goal.loop-x-preserved
loop-x-preserved c =
    ap (λ l. l ++ values_of c.args.axis c.in-Some.more.now) (c.in_ok-add_pair.ensures ∙ ap₂ (λ a b. c.loop-x.pairs ++ pair_of a b) c.x_value.ensures c.amount.ensures)
    ∙ (values_step c.args.axis c.loop-x.pairs c.loop-x.rest.now c.in-Some.x.now c.in-Some.y.now c.in-Some.more.now c.in-Some.ensures ∙ c.loop-x.invariant)

pub returns : goal.returns
returns c = values_end c.args.axis c.loop-x.pairs c.loop-x.rest.now c.in_default.ensures ∙ c.loop-x.invariant
