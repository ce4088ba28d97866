use Rattle.std.proofs.Common.{◌≡◌, ◌∙◌, ap, sym, subst}
use Rattle.std.proofs.lemmas.Int.{to_z-of_z}
use Rattle.fixed_num.proofs.Bounds.{within_between, fits64, fits128}
use Rattle.node_update.specs.NodeLaws.{IsNodeRule}
use Rattle.node_update.specs.NodeUpdate.{rule_volume, volume_of}
use Rattle.node_update.specs.declared.node_law.NodeRule.{NodeRule as Rule}
use Rattle.node_update.proofs.node_law.NodeLaw.volume.Goals as goal

pub junction_volume-requires-clause-pond : goal.junction_volume-requires-clause-pond
junction_volume-requires-clause-pond c =
    let pond = subst IsNodeRule c.in-Junction.is c.requires.law.rule_in in
    simp (to_z-of_z, fits64 (within_between pond) tt) pond

pub storage_volume-requires-clause-table : goal.storage_volume-requires-clause-table
storage_volume-requires-clause-table c = rw c.get.ensures (subst IsNodeRule c.in-Storage.is c.requires.law.rule_in)

pub returns-in-Junction-clause-value : goal.returns-in-Junction-clause-value
unfolding volume_of
returns-in-Junction-clause-value c =
    let pond = subst IsNodeRule c.in-Junction.is c.requires.law.rule_in in
    let v = simp (to_z-of_z, c.ranges.head, fits64 (within_between pond) tt) at c.junction_volume.ensures.value in
    simp (to_z-of_z, fits128 c.junction_volume.ensures.range tt)
    (v ∙ ap (λ (r : Rule). rule_volume r c.args.self.now c.args.head) (sym c.in-Junction.is))

pub returns-in-Storage-clause-value : goal.returns-in-Storage-clause-value
unfolding volume_of
returns-in-Storage-clause-value c =
    let v = simp (to_z-of_z, c.ranges.head, c.get.ensures) at c.storage_volume.ensures.value in
    simp (to_z-of_z, fits128 c.storage_volume.ensures.range tt)
    (v ∙ ap (λ (r : Rule). rule_volume r c.args.self.now c.args.head) (sym c.in-Storage.is))

pub returns-in-Outfall-clause-value : goal.returns-in-Outfall-clause-value
unfolding volume_of
returns-in-Outfall-clause-value c = ap (λ (r : Rule). rule_volume r c.args.self.now c.args.head) (sym c.in-Outfall.is)
