use Rattle.std.proofs.Common.{◌∙◌, ◌<◌, length, ap, rules, arith, FitsSigned, w64}
use Rattle.std.proofs.lemmas.Int.{to_z-of_z}
use Rattle.run_engine.proofs.FillLemmas.{filled_all, filled_more}
use Rattle.run_engine.proofs.LawLemmas.{law_links}
use Rattle.run_engine.proofs.PumpLemmas.{setting_in}
use Rattle.run_engine.proofs.settings.find_pumped.Goals as goal

pub pumped_setting-requires-clause-l : goal.pumped_setting-requires-clause-l
pumped_setting-requires-clause-l c = omega (arith, c.loop-l-test.true, ap length c.as_slice.ensures)

pub pumped_setting-requires-clause-links : goal.pumped_setting-requires-clause-links
pumped_setting-requires-clause-links c = c.requires.links.count ∙ law_links c.args.project.now

pub pumped_setting-requires-clause-setting : goal.pumped_setting-requires-clause-setting
pumped_setting-requires-clause-setting c =
    let inside : c.loop-l.l < length c.args.project.now.links = omega (arith, c.loop-l-test.true, ap length c.as_slice.ensures) in
    setting_in c.args.project.now c.loop-l.l c.requires.links inside

pub bounds-settings-l : goal.bounds-settings-l
bounds-settings-l c =
    omega (arith, c.loop-l.invariant.count, c.requires.places, c.loop-l-test.true, ap length c.as_slice.ensures)

pub loop-l-preserved : goal.loop-l-preserved
loop-l-preserved c =
    let l = c.loop-l.l in
    let fits : FitsSigned w64 c.pumped_setting.result = search rules in
    let room : l < length c.loop-l.settings =
    omega (arith, c.loop-l.invariant.count, c.requires.places, c.loop-l-test.true, ap length c.as_slice.ensures) in
    filled_more c.loop-l.invariant _ room (to_z-of_z w64 _ fits ∙ c.pumped_setting.ensures)

pub returns : goal.returns
returns c = filled_all c.loop-l.invariant _ c.requires.places (omega (arith, c.loop-l-test.false, ap length c.as_slice.ensures))
