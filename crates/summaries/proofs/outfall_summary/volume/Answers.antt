use Rattle.std.proofs.Common.{refl}
use Rattle.std.proofs.lemmas.Int.{to_z-of_z}
use Rattle.fixed_num.proofs.Bounds.{within_add, within_between, fits64, fits128}
use Rattle.summaries.specs.Loads.{volume_by}
use Rattle.summaries.proofs.LoadLemmas.{half_within, volume_within}
use Rattle.summaries.proofs.outfall_summary.volume.Goals as goal

pub returns-clause-value : goal.returns-clause-value
unfolding volume_by
returns-clause-value c =
    let half = half_within c.requires.length in
    let old = c.requires.net_old in
    let net = c.requires.net in
    let nets = within_add old net in
    let all = volume_within c.requires.length old net in
    simp (to_z-of_z, c.ranges.ms, c.ranges.net, fits64 half tt, fits128 half tt, fits64 old tt, fits64 nets tt, fits128 nets tt, fits128 all tt) refl

pub returns-clause-range : goal.returns-clause-range
returns-clause-range c =
    let half = half_within c.requires.length in
    let old = c.requires.net_old in
    let net = c.requires.net in
    let nets = within_add old net in
    let all = volume_within c.requires.length old net in
    simp (to_z-of_z, c.ranges.ms, c.ranges.net, fits64 half tt, fits128 half tt, fits64 old tt, fits64 nets tt, fits128 nets tt, fits128 all tt) all
