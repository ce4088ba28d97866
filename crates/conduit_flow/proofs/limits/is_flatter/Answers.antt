use Rattle.std.proofs.Common.{refl}
use Rattle.std.proofs.lemmas.Int.{to_z-of_z}
use Rattle.fixed_num.proofs.Bounds.{within_sub, fits64}
use Rattle.conduit_flow.specs.Limits.{is_flatter as flatter_of}
use Rattle.conduit_flow.proofs.limits.is_flatter.Goals as goal

pub returns : goal.returns
unfolding flatter_of
returns c =
    let a = c.requires.ends.surface1 in
    let b = c.requires.ends.surface2 in
    let z1 = c.requires.conduit.z1 in
    let z2 = c.requires.conduit.z2 in
    simp (to_z-of_z, fits64 a tt, fits64 b tt, fits64 z1 tt, fits64 z2 tt, fits64 (within_sub a b) tt, fits64 (within_sub z1 z2) tt) refl
