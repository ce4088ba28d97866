use Rattle.std.proofs.Common.{subst}
use Rattle.fixed_num.specs.Units.{IsUnit}
use Rattle.node_update.proofs.BuildLemmas.{store_units_are}
use Rattle.node_update.proofs.build.store_units.Goals as goal

pub returns-clause-units : goal.returns-clause-units
returns-clause-units c =
    let depth = subst IsUnit c.unit_of.ensures.value c.unit_of.ensures.unit in
    let area = subst IsUnit c.unit_of-2.ensures.value c.unit_of-2.ensures.unit in
    rw (c.unit_of.ensures.value, c.unit_of-2.ensures.value) (store_units_are c.args.units depth area)
