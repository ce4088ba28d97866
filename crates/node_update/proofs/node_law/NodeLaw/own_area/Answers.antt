use Rattle.std.proofs.Common.{◌≡◌, ◌∙◌, ◌^◌, pos, ap, sym, subst}
use Rattle.std.proofs.lemmas.Int.{to_z-of_z}
use Rattle.fixed_num.specs.Ranges.{IsNodeArea}
use Rattle.fixed_num.proofs.Bounds.{between_up, within_between, fits64}
use Rattle.node_update.specs.NodeLaws.{IsNodeRule}
use Rattle.node_update.specs.NodeUpdate.{own_area_of}
use Rattle.node_update.specs.declared.node_law.NodeRule.{NodeRule as Rule}
use Rattle.node_update.proofs.node_law.NodeLaw.own_area.Goals as goal

pub junction_area-requires-clause-pond : goal.junction_area-requires-clause-pond
junction_area-requires-clause-pond c =
    let pond = subst IsNodeRule c.in-Junction.is c.requires.law.rule_in in
    simp (to_z-of_z, fits64 (within_between pond) tt) pond

pub storage_area-requires-clause-table : goal.storage_area-requires-clause-table
storage_area-requires-clause-table c = rw c.get.ensures (subst IsNodeRule c.in-Storage.is c.requires.law.rule_in)

pub returns-in-Junction-clause-value : goal.returns-in-Junction-clause-value
returns-in-Junction-clause-value c =
    let pond = subst IsNodeRule c.in-Junction.is c.requires.law.rule_in in
    let v = simp (to_z-of_z, c.ranges.last, fits64 (within_between pond) tt) at c.junction_area.ensures.value in
    simp (to_z-of_z, fits64 (within_between c.junction_area.ensures.range) tt)
    (v ∙ ap (λ (r : Rule). own_area_of r c.args.self.now c.args.last) (sym c.in-Junction.is))

pub returns-in-Storage-clause-value : goal.returns-in-Storage-clause-value
returns-in-Storage-clause-value c =
    let v = simp (to_z-of_z, c.ranges.last, c.get.ensures) at c.storage_area.ensures.value in
    simp (to_z-of_z, fits64 (within_between c.storage_area.ensures.range) tt)
    (v ∙ ap (λ (r : Rule). own_area_of r c.args.self.now c.args.last) (sym c.in-Storage.is))

pub returns-in-Outfall-clause-value : goal.returns-in-Outfall-clause-value
returns-in-Outfall-clause-value c =
    simp (to_z-of_z, fits64 (within_between c.requires.law.area_in) tt)
    (ap (λ (r : Rule). own_area_of r c.args.self.now c.args.last) (sym c.in-Outfall.is))

pub returns-in-Outfall-clause-range : goal.returns-in-Outfall-clause-range
returns-in-Outfall-clause-range c =
    let own = c.requires.law.area_in in
    simp (to_z-of_z, fits64 (within_between own) tt) (between_up own tt tt)
