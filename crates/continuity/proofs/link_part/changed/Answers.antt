use Rattle.std.proofs.lemmas.Int.{to_z-of_z}
use Rattle.fixed_num.proofs.Bounds.{within_number, within_sub, fits128}
use Rattle.continuity.proofs.LinkLemmas.{changed_is}
use Rattle.continuity.proofs.link_part.changed.Goals as goal

pub returns-clause-value : goal.returns-clause-value
returns-clause-value c =
    let change = c.requires.change in
    simp (to_z-of_z, c.ranges.change, fits128 (within_sub (within_number 0) change) tt) (changed_is c.args.change)
