use Rattle.std.proofs.Common.{◌∙◌, ap, ℤ}
use Rattle.std.proofs.lemmas.Int.{to_z-of_z}
use Rattle.fixed_num.proofs.Bounds.{fits64, fits128, within_between}
use Rattle.orifice_weir.specs.OrificeFlow.{orifice_flow_of}
use Rattle.short_links.specs.ShortShare.{short_share_of}
use Rattle.link_eval.specs.Orifices.{orifice_share_of}
use Rattle.link_eval.proofs.orifice.orifice_share.Goals as goal

pub returns : goal.returns
unfolding orifice_share_of
returns c =
    let law = c.args.law.now in
    let setting = fits64 (within_between c.requires.fixed.setting) tt in
    let area = simp (to_z-of_z, c.ranges.near, c.ranges.far, setting) at c.open_area-area.ensures.value in
    let driven = simp (to_z-of_z, c.ranges.near, c.ranges.far, setting, fits64 (within_between c.open_area-area.ensures.range) tt) at c.orifice_flow-driven.ensures.value in
    let share = simp (to_z-of_z, c.ranges.near, c.ranges.far, c.ranges.last, fits128 c.orifice_flow-driven.ensures.range tt) at c.short_share.ensures.value in
    share
    ∙ ap (λ (q : ℤ). short_share_of law.ends c.args.first c.args.near c.args.far c.args.last q)
    (driven ∙ ap (λ (a : ℤ). orifice_flow_of law.orifice c.args.fixed.now.setting c.args.near c.args.far a) area)
