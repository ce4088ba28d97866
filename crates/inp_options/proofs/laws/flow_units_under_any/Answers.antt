use Rattle.inp_options.proofs.LineLemmas.{same_units}
use Rattle.inp_options.proofs.laws.flow_units_under_any.Goals as goal

pub returns : goal.returns
returns c = same_units
