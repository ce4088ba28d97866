use Rattle.std.proofs.Common.{ℕ}
use Rattle.runoff_states.specs.RunoffStates.{state_at}
use Rattle.run_engine.specs.Hot.{sub_in}
use Rattle.run_engine.proofs.FillLemmas.{Filled}
use Rattle.run_engine.proofs.HotLemmas.{no_hot_sub}
use Rattle.run_engine.proofs.hot.keep_subs.Given as goal

abbrev pub invariant-loop-place : goal.invariant-loop-place
invariant-loop-place l = Filled (λ (k : ℕ). sub_in (state_at l.states k)) no_hot_sub l.initial.subs l.subs l.place
