use Rattle.std.proofs.Common.{◌≡◌, ◌∙◌, true, false, ap, sym, subst}
use Rattle.std.proofs.lemmas.Int.{to_z-of_z}
use Rattle.node_update.specs.NodeLaws.{IsNodeRule, is_outfall_rule}
use Rattle.node_update.specs.NodeUpdate.{rule_next, next_of}
use Rattle.node_update.specs.declared.node_law.NodeRule.{NodeRule as Rule}
use Rattle.node_update.proofs.node_law.NodeLaw.next.Goals as goal

pub returns-in-Junction-clause-value : goal.returns-in-Junction-clause-value
unfolding next_of
returns-in-Junction-clause-value c =
    let v = simp (to_z-of_z, c.ranges.inflow, c.ranges.outflow, c.ranges.area, c.ranges.last) at c.filled_next.ensures.value in
    v ∙ ap (λ (r : Rule). rule_next r c.args.self.now c.args.fixed.now c.args.first c.args.inflow c.args.outflow c.args.area c.args.last) (sym c.in-Junction.is)

pub returns-in-Storage-clause-value : goal.returns-in-Storage-clause-value
unfolding next_of
returns-in-Storage-clause-value c =
    let v = simp (to_z-of_z, c.ranges.inflow, c.ranges.outflow, c.ranges.area, c.ranges.last) at c.filled_next-in-Storage.ensures.value in
    v ∙ ap (λ (r : Rule). rule_next r c.args.self.now c.args.fixed.now c.args.first c.args.inflow c.args.outflow c.args.area c.args.last) (sym c.in-Storage.is)

pub returns-in-Outfall-clause-value : goal.returns-in-Outfall-clause-value
unfolding next_of
returns-in-Outfall-clause-value c =
    let v = simp (to_z-of_z, c.ranges.inflow, c.ranges.outflow, c.ranges.area) at c.outfall_next.ensures.value in
    v ∙ ap (λ (r : Rule). rule_next r c.args.self.now c.args.fixed.now c.args.first c.args.inflow c.args.outflow c.args.area c.args.last) (sym c.in-Outfall.is)

pub outfall_next-requires-clause-level : goal.outfall_next-requires-clause-level
outfall_next-requires-clause-level c = subst IsNodeRule c.in-Outfall.is c.requires.law.rule_in

-- an outfall is none of which the top is asked
pub returns-in-Outfall-clause-place : goal.returns-in-Outfall-clause-place
returns-in-Outfall-clause-place c e h =
    let other : is_outfall_rule c.args.self.now.rule ≡ true = ap is_outfall_rule c.in-Outfall.is in
    let never : ⊥ = cc (e, other) in absurd never
