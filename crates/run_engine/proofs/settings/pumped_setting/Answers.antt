use Rattle.std.proofs.Common.{◌∙◌, rules, FitsSigned, w64}
use Rattle.std.proofs.lemmas.Int.{to_z-of_z}
use Rattle.fixed_num.proofs.Bounds.{fits64, within_between}
use Rattle.trial_model.specs.Fits.{link_fixed_at}
use Rattle.run_engine.proofs.PumpLemmas.{link_is, pumped_is}
use Rattle.run_engine.proofs.settings.pumped_setting.Goals as goal

pub returns : goal.returns
returns c =
    let old : FitsSigned w64 (link_fixed_at c.args.links.now c.args.l).setting = search rules in
    let set = simp (to_z-of_z, old, fits64 c.first_depth-depth.ensures.range tt) at c.setting_by_depth.ensures.value in
    to_z-of_z w64 _ (fits64 (within_between c.setting_by_depth.ensures.range) tt)
    ∙ pumped_is c.args.project.now c.args.heads.now c.args.links.now c.args.l (link_is c.as_slice-own.ensures c.requires.l c.index-own-place.is)
    c.first_depth-depth.ensures.value set
