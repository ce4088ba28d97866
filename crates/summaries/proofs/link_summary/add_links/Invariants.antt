use Rattle.std.proofs.Common.{pos}
use Rattle.std.specs.Int.RustNames.{unsigned_abs}
use Rattle.fixed_num.specs.Lists.{number}
use Rattle.summaries.specs.Steps.{no_link_summary, link_summary_at, with_link}
use Rattle.summaries.proofs.RowLemmas.{Rewritten}
use Rattle.summaries.proofs.link_summary.add_links.Given as goal

abbrev pub invariant-loop-l : goal.invariant-loop-l
invariant-loop-l l = Rewritten no_link_summary (λ k. with_link l.first (link_summary_at l.fn.links k) (pos (unsigned_abs (number l.flows k))) (number l.flows k) l.moment) l.fn.links l.links l.l
