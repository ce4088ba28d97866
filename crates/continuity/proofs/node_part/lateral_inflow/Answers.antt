use Rattle.std.proofs.Common.{refl}
use Rattle.std.proofs.lemmas.Int.{to_z-of_z}
use Rattle.fixed_num.proofs.Bounds.{within_up, within_add, within_mul, fits64, fits128}
use Rattle.node_update.proofs.GainLemmas.{flow_within, half_within}
use Rattle.continuity.proofs.node_part.lateral_inflow.Goals as goal

pub returns-clause-value : goal.returns-clause-value
returns-clause-value c =
    let old = flow_within c.requires.old in
    let new = flow_within c.requires.new in
    let half = half_within c.requires.length in
    let both = within_add old new in
    simp (to_z-of_z, c.ranges.ms, fits64 old tt, fits64 new tt, fits64 both tt, fits64 half tt, fits128 half tt, fits128 both tt, fits128 (within_mul half both) tt) refl

pub returns-clause-range : goal.returns-clause-range
returns-clause-range c =
    let old = flow_within c.requires.old in
    let new = flow_within c.requires.new in
    let half = half_within c.requires.length in
    let both = within_add old new in
    simp (to_z-of_z, c.ranges.ms, fits64 old tt, fits64 new tt, fits64 both tt, fits64 half tt, fits128 half tt, fits128 both tt, fits128 (within_mul half both) tt)
    (within_up (within_mul half both) tt)
