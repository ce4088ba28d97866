use Rattle.std.proofs.Common.{◌≡◌, ◌∙◌, ap, sym}
use Rattle.std.proofs.lemmas.Int.{to_z-of_z}
use Rattle.fixed_num.proofs.Bounds.{within_between, fits128}
use Rattle.node_update.specs.NodeUpdate.{overflow_of, rule_flood, flood_of}
use Rattle.node_update.specs.declared.node_law.NodeRule.{NodeRule as Rule}
use Rattle.node_update.proofs.UpdateLemmas.{overflow_most}
use Rattle.node_update.proofs.node_law.NodeLaw.flood.Goals as goal
use Rattle.node_update.proofs.node_law.NodeLaw.flood.Goals.{After-overflow}

value : (c : After-overflow) → c.overflow.result ≡ overflow_of c.args.self.now c.args.fixed.now c.args.inflow c.args.outflow c.args.area c.args.last
value c = simp (to_z-of_z, c.ranges.inflow, c.ranges.outflow, c.ranges.area, c.ranges.last) at c.overflow.ensures.value

pub returns-in-Junction-clause-value : goal.returns-in-Junction-clause-value
unfolding flood_of
returns-in-Junction-clause-value c =
    simp (to_z-of_z, fits128 (within_between c.overflow.ensures.range) tt)
    (value (goal.at.returns-in-Junction-clause-value c).After-overflow
    ∙ ap (λ (r : Rule). rule_flood r c.args.self.now c.args.fixed.now c.args.inflow c.args.outflow c.args.area c.args.last) (sym c.in-Junction.is))

pub returns-in-Junction-clause-most : goal.returns-in-Junction-clause-most
returns-in-Junction-clause-most c h =
    simp (to_z-of_z, fits128 (within_between c.overflow.ensures.range) tt)
    (rw (value (goal.at.returns-in-Junction-clause-most c).After-overflow) (overflow_most c.args.fixed.now c.args.last c.requires.law c.requires.sums h))

pub returns-in-Storage-clause-value : goal.returns-in-Storage-clause-value
unfolding flood_of
returns-in-Storage-clause-value c =
    let v = simp (to_z-of_z, c.ranges.inflow, c.ranges.outflow, c.ranges.area, c.ranges.last) at c.overflow-in-Storage.ensures.value in
    simp (to_z-of_z, fits128 (within_between c.overflow-in-Storage.ensures.range) tt)
    (v ∙ ap (λ (r : Rule). rule_flood r c.args.self.now c.args.fixed.now c.args.inflow c.args.outflow c.args.area c.args.last) (sym c.in-Storage.is))

pub returns-in-Storage-clause-most : goal.returns-in-Storage-clause-most
returns-in-Storage-clause-most c h =
    let v = simp (to_z-of_z, c.ranges.inflow, c.ranges.outflow, c.ranges.area, c.ranges.last) at c.overflow-in-Storage.ensures.value in
    simp (to_z-of_z, fits128 (within_between c.overflow-in-Storage.ensures.range) tt)
    (rw v (overflow_most c.args.fixed.now c.args.last c.requires.law c.requires.sums h))

pub returns-in-Outfall-clause-value : goal.returns-in-Outfall-clause-value
unfolding flood_of
returns-in-Outfall-clause-value c = ap (λ (r : Rule). rule_flood r c.args.self.now c.args.fixed.now c.args.inflow c.args.outflow c.args.area c.args.last) (sym c.in-Outfall.is)
