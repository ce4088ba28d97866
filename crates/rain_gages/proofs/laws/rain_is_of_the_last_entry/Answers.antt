use Rattle.rain_gages.proofs.RainLemmas.{rain_is, rain_is_one}
use Rattle.rain_gages.proofs.laws.rain_is_of_the_last_entry.Goals as goal

pub returns-clause-is : goal.returns-clause-is
returns-clause-is c = rain_is

pub returns-clause-one : goal.returns-clause-one
returns-clause-one c = rain_is_one
