use Rattle.std.proofs.Common.{refl}
use Rattle.std.proofs.lemmas.Int.{to_z-of_z}
use Rattle.fixed_num.proofs.Bounds.{within_sub, fits128}
use Rattle.continuity.proofs.node_part.step_part.Goals as goal

pub returns-clause-value : goal.returns-clause-value
returns-clause-value c =
    let s = c.requires.step in
    let rest = within_sub s.gain s.flood in
    simp (to_z-of_z, fits128 s.inflow tt, fits128 s.gain tt, fits128 s.flood tt, fits128 s.change tt, fits128 rest tt, fits128 (within_sub rest s.change) tt, c.if-is_outfall.false) refl
