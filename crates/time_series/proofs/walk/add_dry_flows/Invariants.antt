use Rattle.std.proofs.Common.{◌^◌}
use Rattle.time_series.specs.Inflows.{dry_at}
use Rattle.time_series.proofs.WalkLemmas.{Walked}
use Rattle.time_series.proofs.walk.add_dry_flows.Given as goal

abbrev pub invariant-loop-dry : goal.invariant-loop-dry
invariant-loop-dry l = Walked (λ n. dry_at l.project l.at n) l.dry-items (10 ^ 35) l.initial.flows l.flows l.dry-index
