use Rattle.std.proofs.Common.{◌∙◌, ap, ℤ}
use Rattle.std.proofs.lemmas.Int.{to_z-of_z}
use Rattle.fixed_num.proofs.Bounds.{fits64, fits128, within_between}
use Rattle.pump_flow.specs.PumpFlow.{pump_flow_of}
use Rattle.pump_flow.specs.declared.flow.PumpInlet.{PumpInlet}
use Rattle.short_links.specs.ShortShare.{short_share_of}
use Rattle.link_eval.specs.Pumps.{pump_share_of}
use Rattle.link_eval.proofs.pump.pump_share.Goals as goal

pub returns : goal.returns
unfolding pump_share_of
returns c =
    let law = c.args.law.now in
    let setting = fits64 (within_between c.requires.fixed.setting) tt in
    let inlet = simp (to_z-of_z, c.ranges.volume, c.ranges.near, c.ranges.far) at c.pump_inlet-inlet.ensures.value in
    let driven = simp (to_z-of_z, setting) at c.pump_flow-driven.ensures.value in
    let share = simp (to_z-of_z, c.ranges.near, c.ranges.far, c.ranges.last, fits128 (within_between c.pump_flow-driven.ensures.range) tt) at c.short_share.ensures.value in
    share
    ∙ ap (λ (q : ℤ). short_share_of law.ends c.args.first c.args.near c.args.far c.args.last q)
    (driven ∙ ap (λ (i : PumpInlet). pump_flow_of c.args.curve.now law.units c.args.fixed.now.setting i) inlet)
