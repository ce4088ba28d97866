use Rattle.std.proofs.Common.{◌≡◌, ◌∙◌, ◌^◌, true, false, ap, subst, ℤ, pos}
use Rattle.std.specs.Prelude.{int_lt}
use Rattle.std.specs.Int.{int_max}
use Rattle.std.proofs.lemmas.Int.{to_z-of_z}
use Rattle.fixed_num.specs.Ranges.{IsBetween}
use Rattle.fixed_num.proofs.Bounds.{within_between, fits64, fits128}
use Rattle.node_update.specs.NodeUpdate.{raised_of, excess_of, overflow_of}
use Rattle.node_update.proofs.GainLemmas.{top_within}
use Rattle.node_update.proofs.UpdateLemmas.{at_least_zero, picked_false}
use Rattle.node_update.proofs.node_law.NodeLaw.overflow.Goals as goal
use Rattle.node_update.proofs.node_law.NodeLaw.overflow.Goals.{After-max}

raised_is : (c : After-max) → c.raised.result ≡ raised_of c.args.self.now c.args.fixed.now c.args.inflow c.args.outflow c.args.area c.args.last
raised_is c = simp (to_z-of_z, c.ranges.inflow, c.ranges.outflow, c.ranges.area, c.ranges.last) at c.raised.ensures.value

excess_is : (c : After-max) → c.excess.result ≡ excess_of c.args.self.now c.args.fixed.now c.args.inflow c.args.outflow c.args.area c.args.last
excess_is c = simp (to_z-of_z, c.ranges.inflow, c.ranges.outflow, c.ranges.area, c.ranges.last) at c.excess.ensures.value

above : (c : After-max) → int_lt c.args.self.now.top (raised_of c.args.self.now c.args.fixed.now c.args.inflow c.args.outflow c.args.area c.args.last) ≡ true
above c =
    let top = top_within c.requires.law in
    let test : int_lt c.args.self.now.top c.raised.result ≡ true = simp (to_z-of_z, fits64 top tt, fits128 top tt, fits128 c.raised.ensures.range tt) at c.if-raised-self.true in
    subst (λ (x : ℤ). int_lt c.args.self.now.top x ≡ true) (raised_is c) test

most : (c : After-max) → c.max.result ≡ int_max c.excess.result (pos 0)
most c = simp (to_z-of_z, fits128 c.excess.ensures.range tt) at c.max.ensures.value

range : (c : After-max) → IsBetween (pos 0) c.max.result (pos (10 ^ 25))
range c = rw (most c) (at_least_zero c.excess.result (10 ^ 25) c.excess.ensures.range)

pub returns-then-raised-self-clause-value : goal.returns-then-raised-self-clause-value
unfolding overflow_of
returns-then-raised-self-clause-value c =
    let d = (goal.at.returns-then-raised-self-clause-value c).After-max in
    simp (to_z-of_z, fits128 (within_between (range d)) tt, above d) (most d ∙ ap (λ (x : ℤ). int_max x (pos 0)) (excess_is d))

pub returns-then-raised-self-clause-range : goal.returns-then-raised-self-clause-range
returns-then-raised-self-clause-range c =
    let r = range (goal.at.returns-then-raised-self-clause-range c).After-max in
    simp (to_z-of_z, fits128 (within_between r) tt) r

pub returns-else-raised-self-clause-value : goal.returns-else-raised-self-clause-value
unfolding overflow_of
returns-else-raised-self-clause-value c =
    let law = c.args.self.now in
    let raised = raised_of law c.args.fixed.now c.args.inflow c.args.outflow c.args.area c.args.last in
    let top = top_within c.requires.law in
    let test : int_lt law.top c.raised.result ≡ false = simp (to_z-of_z, fits64 top tt, fits128 top tt, fits128 c.raised.ensures.range tt) at c.if-raised-self.false in
    let is = simp (to_z-of_z, c.ranges.inflow, c.ranges.outflow, c.ranges.area, c.ranges.last) at c.raised.ensures.value in
    picked_false (int_lt law.top raised) (int_max (excess_of law c.args.fixed.now c.args.inflow c.args.outflow c.args.area c.args.last) (pos 0)) (pos 0)
    (subst (λ (x : ℤ). int_lt law.top x ≡ false) is test)
