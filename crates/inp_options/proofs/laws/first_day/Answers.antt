use Rattle.std.proofs.Common.{refl}
use Rattle.calendar_steps.specs.Calendar.{day_number, days_before, days_before_year, days_of_months}
use Rattle.inp_options.proofs.laws.first_day.Goals as goal

pub returns : goal.returns
unfolding day_number days_before days_before_year days_of_months
returns c = refl
