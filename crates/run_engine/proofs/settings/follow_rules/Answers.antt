use Rattle.std.proofs.Common.{rules, ◌∙◌, length, ap, sym, FitsSigned, w64}
use Rattle.std.proofs.lemmas.Int.{to_z-of_z}
use Rattle.trial_model.proofs.TrialLemmas.{written_whole}
use Rattle.run_engine.proofs.LawLemmas.{law_links, law_nodes}
use Rattle.run_engine.proofs.SettingLemmas.{pumped_count, rules_leave, seen_count}
use Rattle.run_engine.proofs.settings.follow_rules.Goals as goal

pub settings_after-requires-clause-fit : goal.settings_after-requires-clause-fit
settings_after-requires-clause-fit c = record {
  heads = ap length c.as_slice.ensures ∙ c.requires.fits.heads.count ∙ law_nodes c.args.project.now;
  inflows = ap length c.as_slice-2.ensures ∙ ap length c.requires.inflows ∙ seen_count c.args.project.now _ _;
  flows = ap length c.as_slice-3.ensures ∙ c.requires.fits.flows.count ∙ law_links c.args.project.now;
  settings = ap length c.as_slice-pumped.ensures ∙ ap length c.requires.pumped ∙ pumped_count c.args.project.now _ _;
}

pub copy_from_slice-requires : goal.copy_from_slice-requires
copy_from_slice-requires c =
    ap length c.as_mut_slice-settings.ensures.value ∙ c.requires.places
    ∙ sym (ap length c.as_slice-pumped.ensures ∙ ap length c.requires.pumped ∙ pumped_count c.args.project.now _ _)

pub returns-clause-settings : goal.returns-clause-settings
returns-clause-settings c =
    let start : FitsSigned w64 c.args.project.now.options.start = search rules in
    let shown = simp (to_z-of_z, start, c.ranges.moment) at c.point_at.ensures.value in
    written_whole _ _ (c.settings_after.auto.settings ∙ c.copy_from_slice.auto.self ∙ ap length c.as_mut_slice-settings.ensures.value)
    ∙ rules_leave c.args.project.now c.args.moment c.args.nets.now c.settings_after.ensures c.as_slice.ensures
    (c.as_slice-2.ensures ∙ c.requires.inflows) c.as_slice-3.ensures (c.as_slice-pumped.ensures ∙ c.requires.pumped)
    (to_z-of_z w64 c.args.moment c.ranges.moment) shown
