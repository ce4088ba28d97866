use Rattle.summaries.specs.Runoffs.{flow_at, no_runoff, summary_at, volumes_at, with_step}
use Rattle.summaries.proofs.RowLemmas.{Rewritten}
use Rattle.summaries.proofs.sub_summary.add_steps.Given as goal

abbrev pub invariant-loop-k : goal.invariant-loop-k
invariant-loop-k l =
    Rewritten no_runoff (λ k. with_step (summary_at l.fn.subs k) (volumes_at l.steps k) (flow_at l.states k))
    l.fn.subs l.subs l.k
