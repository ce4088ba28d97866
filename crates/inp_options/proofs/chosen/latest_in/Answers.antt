use Rattle.inp_options.specs.Chosen.{nothing, settings}
use Rattle.inp_options.proofs.ChosenLemmas.{latest_next}
use Rattle.inp_options.proofs.chosen.latest_in.Goals as goal

pub loop-line-init : goal.loop-line-init
unfolding settings
loop-line-init c = record { value = c.nothing-latest.ensures.value; range = c.nothing-latest.ensures.range }

pub loop-line-preserved : goal.loop-line-preserved
loop-line-preserved c = record {
  value = latest_next c.args.units c.args.lines.now c.loop-line.line-index c.line-item.result nothing c.loop-line.latest c.set_by_line.new.latest
      c.loop-line-test.true c.line-item.is c.loop-line.invariant.value c.set_by_line.ensures.value;
  range = c.set_by_line.ensures.range c.loop-line.invariant.range;
}
