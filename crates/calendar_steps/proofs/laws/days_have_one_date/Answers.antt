use Rattle.calendar_steps.proofs.CivilLemmas.{civil_is, back_to_day}
use Rattle.calendar_steps.proofs.laws.days_have_one_date.Goals as goal

pub returns-clause-one : goal.returns-clause-one
returns-clause-one c = civil_is

pub returns-clause-back : goal.returns-clause-back
returns-clause-back c = back_to_day
