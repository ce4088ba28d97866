use Rattle.std.proofs.Common.{ap, refl}
use Rattle.xsect_tables.specs.SectionTable.{SectionTable}
use Rattle.link_eval.specs.Hydraulics.{LinkLaw, law_of}
use Rattle.link_eval.specs.SharedTables.{law_with}
use Rattle.link_eval.proofs.SharedLemmas.{has_law, seen_law}
use Rattle.link_eval.proofs.law.HydraulicLawPhaseLaw.ends.Goals as goal

pub bounds-as_slice-link : goal.bounds-as_slice-link
unfolding law_of
bounds-as_slice-link c = has_law c.args.self.now.hydraulics c.links.inside.tables c.links.inside.laws c.as_slice.result.now c.args.link c.links.view_is c.as_slice.ensures c.requires

pub returns : goal.returns
unfolding law_of law_with
returns c =
    ap (λ (l : LinkLaw SectionTable). (l.first, l.second))
    (seen_law c.args.self.now.hydraulics c.links.inside.tables c.links.inside.tables c.links.inside.laws c.as_slice.result.now c.args.link _ c.links.view_is refl c.as_slice.ensures c.requires)
