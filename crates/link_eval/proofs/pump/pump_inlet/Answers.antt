use Rattle.std.proofs.Common.{refl}
use Rattle.std.proofs.lemmas.Int.{to_z-of_z}
use Rattle.fixed_num.proofs.Bounds.{fits64, within_sub}
use Rattle.link_eval.proofs.pump.pump_inlet.Goals as goal

pub returns-clause-value : goal.returns-clause-value
returns-clause-value c =
    let depth = within_sub c.requires.near c.requires.invert in
    let lift = within_sub c.requires.far c.requires.near in
    simp (to_z-of_z, c.ranges.volume, c.ranges.near, c.ranges.far, fits64 c.requires.invert tt, fits64 depth tt, fits64 lift tt) refl
