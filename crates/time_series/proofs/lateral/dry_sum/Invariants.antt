use Rattle.time_series.specs.Inflows.{dry_at}
use Rattle.time_series.proofs.SumLemmas.{Summed}
use Rattle.time_series.proofs.lateral.dry_sum.Given as goal

abbrev pub invariant-loop-dry : goal.invariant-loop-dry
invariant-loop-dry l = Summed (dry_at l.project l.at l.node) l.dry-items l.total l.dry-index
