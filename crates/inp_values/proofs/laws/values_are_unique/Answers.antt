use Rattle.inp_values.proofs.UniqueLemmas.{whole_unique, clock_unique, date_unique, hours_unique, seconds_unique}
use Rattle.inp_values.proofs.laws.values_are_unique.Goals as goal

pub returns-clause-whole : goal.returns-clause-whole
returns-clause-whole c = whole_unique

pub returns-clause-clock : goal.returns-clause-clock
returns-clause-clock c = clock_unique

pub returns-clause-date : goal.returns-clause-date
returns-clause-date c = date_unique

pub returns-clause-hours : goal.returns-clause-hours
returns-clause-hours c = hours_unique

pub returns-clause-seconds : goal.returns-clause-seconds
returns-clause-seconds c = seconds_unique
