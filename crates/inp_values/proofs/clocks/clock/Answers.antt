use Rattle.std.proofs.Common.{refl, ◌∙◌}
use Rattle.inp_values.specs.Clock.{clock_of}
use Rattle.inp_values.proofs.ClockLemmas.{some_clock, none_clock, even_clock}
use Rattle.inp_values.proofs.clocks.clock.Goals as goal

pub returns-clause-value : goal.returns-clause-value
unfolding clock_of
returns-clause-value c =
    c.ms_of.ensures.value ∙ rw (c.field.ensures.value, c.clock_end.ensures.value, c.split_digits.ensures.front, c.split_digits.ensures.rest) refl

pub returns-clause-some : goal.returns-clause-some
returns-clause-some c = some_clock c.args.text.now _ (returns-clause-value c)

pub returns-clause-none : goal.returns-clause-none
returns-clause-none c = none_clock c.args.text.now _ (returns-clause-value c)

pub returns-clause-even : goal.returns-clause-even
returns-clause-even c = even_clock c.args.text.now _ (returns-clause-some c)
