use Rattle.std.proofs.Common.{◌≡◌, ap, ℤ, ◌+ℤ◌}
use Rattle.std.proofs.lemmas.Int.{to_z-of_z}
use Rattle.fixed_num.proofs.Bounds.{within_add, within_between, fits64}
use Rattle.node_update.specs.NodeUpdate.{surface_of}
use Rattle.node_update.proofs.node_law.NodeLaw.surface.Goals as goal

pub returns-clause-value : goal.returns-clause-value
unfolding surface_of
returns-clause-value c =
    let own = within_between c.own_area.ensures.range in
    let value = simp (to_z-of_z, c.ranges.last) at c.own_area.ensures.value in
    simp (to_z-of_z, fits64 own tt, c.ranges.area, fits64 (within_add own (within_between c.requires.area)) tt)
    (ap (λ (x : ℤ). x +ℤ c.args.area) value)
