use Rattle.inp_values.proofs.UnitLemmas.{units_are_units}
use Rattle.inp_values.proofs.quantities.unit_of.Goals as goal

pub returns-clause-unit : goal.returns-clause-unit
returns-clause-unit c = rw c.table.ensures (units_are_units c.args.units c.args.quantity)
