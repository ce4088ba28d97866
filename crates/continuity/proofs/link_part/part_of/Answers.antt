use Rattle.std.proofs.lemmas.Int.{to_z-of_z}
use Rattle.fixed_num.proofs.Bounds.{within_sub, fits128}
use Rattle.continuity.specs.Parts.{link_part}
use Rattle.continuity.proofs.link_part.part_of.Goals as goal

pub returns-clause-value : goal.returns-clause-value
unfolding link_part
returns-clause-value c =
    let new = c.volume_in.ensures.range in
    let old = c.volume_in-2.ensures.range in
    let part = simp (to_z-of_z, fits128 new tt, fits128 old tt, fits128 (within_sub new old) tt) at c.changed.ensures.value in
    simp (c.volume_in.ensures.value, c.volume_in-2.ensures.value) at part
