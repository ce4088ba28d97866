use Rattle.runoff_states.proofs.AccountLemmas.{Summed}
use Rattle.runoff_states.proofs.account.step_account.Given as goal

abbrev pub invariant-loop-step : goal.invariant-loop-step
invariant-loop-step l = Summed l.steps l.sums l.step-index
