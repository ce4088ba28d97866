use Rattle.continuity.specs.Parts.{link_part}
use Rattle.continuity.proofs.TotalLemmas.{Summed}
use Rattle.continuity.proofs.link_part.all_links.Given as goal

abbrev pub invariant-loop-link : goal.invariant-loop-link
invariant-loop-link l = Summed (link_part l.law.hydraulics l.before l.after) l.link l.total
