use Rattle.std.proofs.Common.{◌∙◌, length, ap}
use Rattle.run_engine.proofs.SettingLemmas.{pumped_count, seen_count, settings_count}
use Rattle.run_engine.proofs.settings.find_settings.Goals as goal

pub returns-clause-places : goal.returns-clause-places
returns-clause-places c = record {
  inflows = ap length c.follow_rules.ensures.inflows ∙ ap length c.see_state.ensures.inflows ∙ seen_count c.args.project.now _ _;
  pumped = ap length c.follow_rules.ensures.pumped ∙ ap length c.see_state.ensures.pumped ∙ pumped_count c.args.project.now _ _;
  settings = ap length c.follow_rules.ensures.settings ∙ settings_count c.args.project.now _ _;
}
