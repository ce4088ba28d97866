use Rattle.std.proofs.Common.{◌∙◌, length, sym, subst, ap}
use Rattle.std.proofs.lemmas.Int.{to_z-of_z}
use Rattle.trial_model.specs.declared.nets.Nets.{Nets}
use Rattle.trial_model.specs.Fits.{Fits}
use Rattle.trial_model.proofs.TrialLemmas.{written_whole}
use Rattle.run_engine.specs.States.{project_law}
use Rattle.link_eval.specs.Hydraulics.{law_of}
use Rattle.link_eval.specs.declared.hydraulics.Hydraulics.{Hydraulics}
use Rattle.run_engine.proofs.LawLemmas.{law_links, law_nodes, project_good}
use Rattle.run_engine.proofs.SettingLemmas.{settings_count}
use Rattle.run_engine.proofs.PreparedLemmas.{inflows_are, laterals_are, outflows_are, prepared_fits, prepared_is}
use Rattle.run_engine.proofs.prepare.prepare.Goals as goal

pub prepare_links-requires-clause-settings : goal.prepare_links-requires-clause-settings
prepare_links-requires-clause-settings c =
    ap length c.requires.settings ∙ settings_count c.args.start.now.project _ _ ∙ sym (law_links c.args.start.now.project)
    ∙ ap (λ (h : Hydraulics). (law_of h).links) (sym c.requires.law)

pub prepare_nodes-requires-clause-heads : goal.prepare_nodes-requires-clause-heads
prepare_nodes-requires-clause-heads c = ap length c.as_slice-heads.ensures ∙ c.requires.fits.heads.count ∙ law_nodes c.args.start.now.project

pub prepare_nodes-requires-clause-inflows : goal.prepare_nodes-requires-clause-inflows
prepare_nodes-requires-clause-inflows c = inflows_are c.requires.fits.sums (law_nodes c.args.start.now.project) c.as_slice-inflows.ensures

pub prepare_nodes-requires-clause-outflows : goal.prepare_nodes-requires-clause-outflows
prepare_nodes-requires-clause-outflows c = outflows_are c.requires.fits.sums (law_nodes c.args.start.now.project) c.as_slice-outflows.ensures

pub prepare_nodes-requires-clause-nodes : goal.prepare_nodes-requires-clause-nodes
prepare_nodes-requires-clause-nodes c = laterals_are c.requires.fits.nodes (law_nodes c.args.start.now.project) c.as_mut_slice.ensures.value

pub returns-clause-nets : goal.returns-clause-nets
returns-clause-nets c =
    let links = simp (c.as_slice-heads.ensures, c.as_slice-flows.ensures, to_z-of_z, c.ranges.dt) at c.prepare_links.ensures in
    let nodes =
    simp (c.as_slice-heads.ensures, c.as_slice-inflows.ensures, c.as_slice-outflows.ensures, c.as_mut_slice.ensures.value, to_z-of_z, c.ranges.dt, c.ranges.finish)
    at c.prepare_nodes.ensures in
    prepared_is c.args.start.now c.args.finish c.args.dt c.args.nets.now c.requires.law
    c.requires.settings
    (written_whole _ _ (c.prepare_links.auto.links ∙ ap length c.as_mut_slice-links.ensures.value) ∙ links)
    (written_whole _ _ (c.prepare_nodes.auto.nodes ∙ ap length c.as_mut_slice.ensures.value) ∙ nodes)

pub returns-clause-fits : goal.returns-clause-fits
returns-clause-fits c =
    let good = project_good c.args.law.now.hydraulics c.args.law.now.good c.args.start.now.project c.requires.law in
    subst (λ (t : Nets). Fits (project_law c.args.start.now.project) t) (sym (returns-clause-nets c)) (prepared_fits c.args.start.now good c.requires.project c.requires.fits c.args.finish c.requires.dt)
