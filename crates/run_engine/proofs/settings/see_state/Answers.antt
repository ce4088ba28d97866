use Rattle.std.proofs.Common.{◌∙◌, length, ap}
use Rattle.trial_model.proofs.TrialLemmas.{written_whole}
use Rattle.run_engine.proofs.LawLemmas.{law_nodes}
use Rattle.run_engine.proofs.PreparedLemmas.{inflows_are, laterals_are}
use Rattle.run_engine.proofs.settings.see_state.Goals as goal

pub see_inflows-requires-clause-inflows : goal.see_inflows-requires-clause-inflows
see_inflows-requires-clause-inflows c = inflows_are c.requires.fits.sums (law_nodes c.args.project.now) c.as_slice-inflows.ensures

pub see_inflows-requires-clause-nodes : goal.see_inflows-requires-clause-nodes
see_inflows-requires-clause-nodes c = laterals_are c.requires.fits.nodes (law_nodes c.args.project.now) c.as_slice-nodes.ensures

pub returns-clause-inflows : goal.returns-clause-inflows
returns-clause-inflows c =
    let seen = simp (c.as_slice-inflows.ensures, c.as_slice-nodes.ensures) at c.see_inflows.ensures in
    written_whole _ _ (c.see_inflows.auto.seen ∙ ap length c.as_mut_slice.ensures.value) ∙ seen

pub returns-clause-pumped : goal.returns-clause-pumped
returns-clause-pumped c =
    let found = simp (c.as_slice-heads.ensures, c.as_slice-links.ensures) at c.find_pumped.ensures in
    written_whole _ _ (c.find_pumped.auto.settings ∙ ap length c.as_mut_slice-2.ensures.value) ∙ found
