use Rattle.std.proofs.Common.{◌≡◌, ◌*◌, ◌^◌, pos, ◌+ℤ◌, ◌-ℤ◌}
use Rattle.std.proofs.lemmas.Int.{to_z-of_z}
use Rattle.fixed_num.proofs.Bounds.{within_add, within_sub, within_between, fits64, fits128}
use Rattle.node_update.proofs.node_law.NodeLaw.ponded_volume.Goals as goal

pub returns-clause-value : goal.returns-clause-value
returns-clause-value c =
    let area = fits64 (within_between c.requires.law.area_in) tt in
    let full = fits64 (within_between c.requires.law.full_in) tt in
    let level = c.full_level.ensures.range in
    let depth = within_sub c.requires.head level in
    let below = simp (to_z-of_z, area, full) at c.prism.ensures.value in
    let above = simp (to_z-of_z, c.ranges.pond, c.ranges.head, fits64 level tt, fits64 depth tt) at c.prism-2.ensures.value in
    let first = c.prism.ensures.range in
    let second = c.prism-2.ensures.range in
    simp (to_z-of_z, fits128 first tt, fits128 second tt, fits128 (within_add first second) tt) (cc (below, above, c.full_level.ensures.value))
