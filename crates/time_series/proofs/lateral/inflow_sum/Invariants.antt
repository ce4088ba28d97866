use Rattle.time_series.specs.Inflows.{inflow_at}
use Rattle.time_series.proofs.SumLemmas.{Summed}
use Rattle.time_series.proofs.lateral.inflow_sum.Given as goal

abbrev pub invariant-loop-inflow : goal.invariant-loop-inflow
invariant-loop-inflow l = Summed (inflow_at l.project l.moment l.at l.node) l.inflow-items l.total l.inflow-index
