use Rattle.std.proofs.Common.{◌∙◌, ap}
use Rattle.std.proofs.lemmas.Int.{to_z-of_z}
use Rattle.xsect_tables.specs.SectionTable.{SectionTable}
use Rattle.link_eval.specs.Hydraulics.{LinkLaw, law_of, link_share_of}
use Rattle.link_eval.specs.LawGood.{head_in}
use Rattle.link_eval.specs.SharedTables.{law_with}
use Rattle.link_eval.proofs.SharedLemmas.{good_law, has_law, seen_law}
use Rattle.link_eval.proofs.law.HydraulicLawPhaseLaw.link_share.Goals as goal

pub bounds-as_slice-link : goal.bounds-as_slice-link
unfolding law_of
bounds-as_slice-link c = has_law c.args.self.now.hydraulics c.links.inside.tables c.links.inside.laws c.as_slice.result.now c.args.link c.links.view_is c.as_slice.ensures c.requires.link

pub rule_share-requires-clause-rule : goal.rule_share-requires-clause-rule
unfolding law_of law_with
rule_share-requires-clause-rule c =
    let h = c.args.self.now.hydraulics in
    (good_law h c.links.inside.tables c.as_slice-tables.result.now c.links.inside.laws c.as_slice.result.now c.args.link _ c.args.self.now.good c.links.view_is c.as_slice-tables.ensures c.as_slice.ensures c.requires.link).rule

pub rule_share-requires-clause-curve : goal.rule_share-requires-clause-curve
unfolding law_of law_with
rule_share-requires-clause-curve c =
    let h = c.args.self.now.hydraulics in
    (good_law h c.links.inside.tables c.as_slice-tables.result.now c.links.inside.laws c.as_slice.result.now c.args.link _ c.args.self.now.good c.links.view_is c.as_slice-tables.ensures c.as_slice.ensures c.requires.link).curve

pub rule_share-requires-clause-node : goal.rule_share-requires-clause-node
unfolding law_of law_with
rule_share-requires-clause-node c =
    let h = c.args.self.now.hydraulics in
    (good_law h c.links.inside.tables c.as_slice-tables.result.now c.links.inside.laws c.as_slice.result.now c.args.link _ c.args.self.now.good c.links.view_is c.as_slice-tables.ensures c.as_slice.ensures c.requires.link).ends.first

pub rule_share-requires-clause-near : goal.rule_share-requires-clause-near
rule_share-requires-clause-near c = simp (to_z-of_z, c.ranges.near) (head_in c.args.self.now.hydraulics c.requires.near)

pub rule_share-requires-clause-far : goal.rule_share-requires-clause-far
rule_share-requires-clause-far c = simp (to_z-of_z, c.ranges.far) (head_in c.args.self.now.hydraulics c.requires.far)

pub returns : goal.returns
unfolding law_of law_with
returns c =
    let h = c.args.self.now.hydraulics in
    let law = seen_law h c.links.inside.tables c.as_slice-tables.result.now c.links.inside.laws c.as_slice.result.now c.args.link _ c.links.view_is c.as_slice-tables.ensures c.as_slice.ensures c.requires.link in
    let value = simp (to_z-of_z, c.ranges.near, c.ranges.far, c.ranges.last) at c.rule_share.ensures in
    value ∙ ap (λ (l : LinkLaw SectionTable). link_share_of h l c.args.fixed.now c.args.first c.args.near c.args.far c.args.last) law
