use Rattle.std.proofs.Common.{◌≡◌, ◌∙◌, ◌^◌, ℤ, pos, ◌-ℤ◌, ap}
use Rattle.std.specs.Int.{int_max}
use Rattle.std.proofs.lemmas.Int.{to_z-of_z}
use Rattle.fixed_num.specs.Ranges.{IsBetween}
use Rattle.fixed_num.proofs.Bounds.{within_sub, within_between, fits64}
use Rattle.node_update.specs.NodeUpdate.{storage_area_of}
use Rattle.node_update.proofs.GainLemmas.{storage_area_between}
use Rattle.node_update.proofs.node_law.NodeLaw.storage_area.Goals as goal
use Rattle.node_update.proofs.node_law.NodeLaw.storage_area.Goals.{After-max}

value : (c : After-max) → c.max.result ≡ storage_area_of c.args.self.now c.args.table.now c.args.last
unfolding storage_area_of
value c =
    let invert = c.requires.law.invert_in in
    let depth = within_sub c.requires.last invert in
    let own = fits64 (within_between c.requires.law.area_in) tt in
    let area = simp (to_z-of_z, c.ranges.last, fits64 invert tt, fits64 depth tt) at c.area.ensures.value in
    let most = simp (to_z-of_z, own, fits64 (within_between c.area.ensures.range) tt) at c.max.ensures.value in
    most ∙ ap (λ (x : ℤ). int_max c.args.self.now.min_area x) area

range : (c : After-max) → IsBetween (pos 1) c.max.result (pos (10 ^ 13))
range c = rw (value c) (storage_area_between c.args.last c.requires.law c.requires.table)

pub returns-clause-value : goal.returns-clause-value
returns-clause-value c =
    let d = (goal.at.returns-clause-value c).After-max in
    simp (to_z-of_z, fits64 (within_between (range d)) tt) (value d)

pub returns-clause-range : goal.returns-clause-range
returns-clause-range c =
    let d = (goal.at.returns-clause-range c).After-max in
    simp (to_z-of_z, fits64 (within_between (range d)) tt) (range d)
