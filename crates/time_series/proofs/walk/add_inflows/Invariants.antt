use Rattle.time_series.specs.Inflows.{inflow_at}
use Rattle.time_series.proofs.WalkLemmas.{Walked}
use Rattle.time_series.proofs.walk.add_inflows.Given as goal

abbrev pub invariant-loop-inflow : goal.invariant-loop-inflow
invariant-loop-inflow l = Walked (λ n. inflow_at l.project l.moment l.at n) l.inflow-items 0 l.initial.flows l.flows
    l.inflow-index
