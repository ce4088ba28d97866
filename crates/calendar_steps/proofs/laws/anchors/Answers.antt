use Rattle.std.proofs.Common.{arith, refl, pos}
use Rattle.calendar_steps.specs.Moment.{weekday_on}
use Rattle.calendar_steps.proofs.CalendarLemmas.{number_1900, number_1970, number_2000, number_2200}
use Rattle.calendar_steps.proofs.laws.anchors.Goals as goal

pub returns-clause-first : goal.returns-clause-first
returns-clause-first c = number_1900

pub returns-clause-epoch : goal.returns-clause-epoch
returns-clause-epoch c = number_1970

pub returns-clause-leap_day : goal.returns-clause-leap_day
returns-clause-leap_day c = number_2000

pub returns-clause-last : goal.returns-clause-last
returns-clause-last c = number_2200

pub returns-clause-thursday : goal.returns-clause-thursday
unfolding weekday_on
returns-clause-thursday c = refl
