use Rattle.std.proofs.Common.{ap, ◌∙◌}
use Rattle.inp_values.specs.Clock.{below_a_day}
use Rattle.inp_values.proofs.ClockLemmas.{some_time, none_time, even_time}
use Rattle.inp_values.proofs.clocks.time_of_day.Goals as goal

pub returns-clause-value : goal.returns-clause-value
returns-clause-value c = c.below_a_day.ensures.value ∙ ap below_a_day c.clock.ensures.value

pub returns-clause-some : goal.returns-clause-some
returns-clause-some c = some_time c.args.text.now _ (returns-clause-value c)

pub returns-clause-none : goal.returns-clause-none
returns-clause-none c = none_time c.args.text.now _ (returns-clause-value c)

pub returns-clause-even : goal.returns-clause-even
returns-clause-even c = even_time c.args.text.now _ (returns-clause-some c)
