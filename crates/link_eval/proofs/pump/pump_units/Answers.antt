use Rattle.std.proofs.Common.{subst}
use Rattle.fixed_num.specs.Units.{IsUnit}
use Rattle.link_eval.proofs.BuildLemmas.{pump_units_are}
use Rattle.link_eval.proofs.pump.pump_units.Goals as goal

pub returns-clause-units : goal.returns-clause-units
returns-clause-units c =
    let volume = subst IsUnit c.unit_of.ensures.value c.unit_of.ensures.unit in
    let depth = subst IsUnit c.unit_of-2.ensures.value c.unit_of-2.ensures.unit in
    let flow = subst IsUnit c.unit_of-3.ensures.value c.unit_of-3.ensures.unit in
    rw (c.unit_of.ensures.value, c.unit_of-2.ensures.value, c.unit_of-3.ensures.value) (pump_units_are c.args.units volume depth flow)
