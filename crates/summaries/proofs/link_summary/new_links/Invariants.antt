use Rattle.std.proofs.Common.{◌≡◌, replicate}
use Rattle.summaries.specs.Steps.{no_link_summary}
use Rattle.summaries.proofs.link_summary.new_links.Given as goal

abbrev pub invariant-loop : goal.invariant-loop
invariant-loop l = l.list ≡ replicate l.counter no_link_summary
