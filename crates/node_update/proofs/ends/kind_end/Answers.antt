use Rattle.std.proofs.Common.{◌≡◌, refl, subst}
use Rattle.std.proofs.lemmas.Int.{to_z-of_z}
use Rattle.fixed_num.proofs.Bounds.{within_add, within_sub, within_between, within_up, fits64}
use Rattle.net_types.specs.Ranges.{LinkKindInRange}
use Rattle.node_update.proofs.ends.kind_end.Goals as goal

pub overflow_sub-result : goal.overflow_sub-result
overflow_sub-result c =
    let sizes = subst LinkKindInRange c.in-Conduit.is c.requires.kind in
    let z1 = within_between sizes.z1_in in
    let z2 = within_between sizes.z2_in in
    let near = within_add c.requires.near z1 in
    let far = within_add c.requires.far z2 in
    simp (to_z-of_z, c.ranges.near, c.ranges.far, fits64 z1 tt, fits64 z2 tt, fits64 near tt, fits64 far tt) (fits64 (within_sub near far) tt)

pub returns-in-Some-clause-value : goal.returns-in-Some-clause-value
returns-in-Some-clause-value c =
    let sizes = subst LinkKindInRange c.in-Conduit.is c.requires.kind in
    let z1 = within_between sizes.z1_in in
    let z2 = within_between sizes.z2_in in
    let near = within_add c.requires.near z1 in
    let far = within_add c.requires.far z2 in
    let n6 = fits64 (within_between sizes.roughness_in) tt in
    let long = fits64 (within_between sizes.long_in) tt in
    simp (to_z-of_z, c.ranges.near, c.ranges.far, fits64 z1 tt, fits64 z2 tt, fits64 near tt, fits64 far tt, fits64 (within_sub near far) tt, n6, long)
    (rw (c.in-Conduit.is, c.in-Some.is, c.build.ensures.value) refl)

pub returns-in-Some-clause-range : goal.returns-in-Some-clause-range
returns-in-Some-clause-range c =
    let sizes = subst LinkKindInRange c.in-Conduit.is c.requires.kind in
    let z1 = within_between sizes.z1_in in
    let z2 = within_between sizes.z2_in in
    let near = within_add c.requires.near z1 in
    let far = within_add c.requires.far z2 in
    let n6 = fits64 (within_between sizes.roughness_in) tt in
    let long = fits64 (within_between sizes.long_in) tt in
    simp (to_z-of_z, c.ranges.near, c.ranges.far, fits64 z1 tt, fits64 z2 tt, fits64 near tt, fits64 far tt, fits64 (within_sub near far) tt, n6, long)
    (record { table = c.build.ensures.table; height = within_up far tt; roughness = sizes.roughness_in; drop = within_up (within_sub near far) tt; length = sizes.long_in })
