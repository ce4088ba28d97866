use Rattle.std.proofs.Common.{◌∙◌, ap, sym, subst}
use Rattle.std.proofs.lemmas.Int.{to_z-of_z}
use Rattle.fixed_num.proofs.Bounds.{within_between, fits128}
use Rattle.xsect_tables.specs.SectionTable.{SectionTable}
use Rattle.link_eval.specs.Hydraulics.{LinkLaw, rule_volume, volume_at}
use Rattle.link_eval.specs.LinkLaws.{IsLinkRule}
use Rattle.link_eval.specs.SharedTables.{law_with}
use Rattle.link_eval.proofs.SharedLemmas.{has_law, seen_law}
use Rattle.link_eval.proofs.hydraulic_law.HydraulicLaw.link_volume.Goals as goal

pub bounds-as_slice-link : goal.bounds-as_slice-link
bounds-as_slice-link c = has_law c.args.self.now.hydraulics c.links.inside.tables c.links.inside.laws c.as_slice.result.now c.args.link c.links.view_is c.as_slice.ensures c.requires.link

pub volume-requires-clause-rule : goal.volume-requires-clause-rule
unfolding law_with
volume-requires-clause-rule c =
    let h = c.args.self.now.hydraulics in
    let law = seen_law h c.links.inside.tables c.as_slice-2.result.now c.links.inside.laws c.as_slice.result.now c.args.link _ c.links.view_is c.as_slice-2.ensures c.as_slice.ensures c.requires.link in
    subst (λ (l : LinkLaw SectionTable). IsLinkRule l.rule) (sym law) (c.args.self.now.good.links c.args.link c.requires.link).rule

pub returns-clause-value : goal.returns-clause-value
unfolding volume_at law_with
returns-clause-value c =
    let h = c.args.self.now.hydraulics in
    let law = seen_law h c.links.inside.tables c.as_slice-2.result.now c.links.inside.laws c.as_slice.result.now c.args.link _ c.links.view_is c.as_slice-2.ensures c.as_slice.ensures c.requires.link in
    let value = simp (to_z-of_z, c.ranges.near, c.ranges.far) at c.volume.ensures.value in
    simp (to_z-of_z, fits128 (within_between c.volume.ensures.range) tt)
    (value ∙ ap (λ (l : LinkLaw SectionTable). rule_volume l.rule c.args.near c.args.far) law)
