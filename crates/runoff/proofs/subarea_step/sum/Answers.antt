use Rattle.std.proofs.lemmas.Int.{to_z-of_z}
use Rattle.fixed_num.proofs.Bounds.{within_add, fits128}
use Rattle.runoff.proofs.subarea_step.sum.Goals as goal

pub returns : goal.returns
returns c =
    let a = c.requires.first in
    let b = c.requires.second in
    simp (
      to_z-of_z,
      fits128 a.rain tt,
      fits128 b.rain tt,
      fits128 (within_add a.rain b.rain) tt,
      fits128 a.infil tt,
      fits128 b.infil tt,
      fits128 (within_add a.infil b.infil) tt,
      fits128 a.runoff tt,
      fits128 b.runoff tt,
      fits128 (within_add a.runoff b.runoff) tt,
      fits128 a.stored tt,
      fits128 b.stored tt,
      fits128 (within_add a.stored b.stored) tt,
    )
