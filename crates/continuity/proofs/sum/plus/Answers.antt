use Rattle.std.proofs.Common.{refl}
use Rattle.std.proofs.lemmas.Int.{to_z-of_z}
use Rattle.fixed_num.proofs.Bounds.{within_add, fits128}
use Rattle.continuity.proofs.sum.plus.Goals as goal

pub returns : goal.returns
returns c =
    let p = c.requires.first in
    let q = c.requires.second in
    simp (
      to_z-of_z,
      fits128 p.inflow tt,
      fits128 p.outfall tt,
      fits128 p.flooding tt,
      fits128 p.storage tt,
      fits128 p.error tt,
      fits128 q.inflow tt,
      fits128 q.outfall tt,
      fits128 q.flooding tt,
      fits128 q.storage tt,
      fits128 q.error tt,
      fits128 (within_add p.inflow q.inflow) tt,
      fits128 (within_add p.outfall q.outfall) tt,
      fits128 (within_add p.flooding q.flooding) tt,
      fits128 (within_add p.storage q.storage) tt,
      fits128 (within_add p.error q.error) tt,
    )
    refl
