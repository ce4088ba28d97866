use Rattle.std.proofs.Common.{◌∙◌, ap, ℤ}
use Rattle.std.proofs.lemmas.Int.{to_z-of_z}
use Rattle.fixed_num.proofs.Bounds.{fits64, fits128, within_between}
use Rattle.short_links.specs.ShortShare.{short_share_of}
use Rattle.link_eval.specs.Weirs.{weir_share_of}
use Rattle.link_eval.proofs.weir.weir_share.Goals as goal

pub returns : goal.returns
unfolding weir_share_of
returns c =
    let setting = fits64 (within_between c.requires.fixed.setting) tt in
    let driven = simp (to_z-of_z, c.ranges.near, c.ranges.far, setting) at c.weir_flow-driven.ensures.value in
    let share = simp (to_z-of_z, c.ranges.near, c.ranges.far, c.ranges.last, fits128 c.weir_flow-driven.ensures.range tt) at c.short_share.ensures.value in
    share ∙ ap (λ (q : ℤ). short_share_of c.args.law.now.ends c.args.first c.args.near c.args.far c.args.last q) driven
