use Rattle.std.proofs.Common.{refl, ◌∙◌}
use Rattle.inp_values.specs.CalendarDate.{date_of}
use Rattle.inp_values.proofs.DateLemmas.{some_date, none_date}
use Rattle.inp_values.proofs.dates.date.Goals as goal

pub returns-clause-value : goal.returns-clause-value
unfolding date_of
returns-clause-value c =
    c.date_after.ensures.value ∙ rw (c.field.ensures.value, c.split_digits.ensures.front, c.split_digits.ensures.rest) refl

pub returns-clause-some : goal.returns-clause-some
returns-clause-some c = some_date c.args.text.now _ (returns-clause-value c)

pub returns-clause-none : goal.returns-clause-none
returns-clause-none c = none_date c.args.text.now _ (returns-clause-value c)
