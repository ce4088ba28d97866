use Rattle.std.proofs.Common.{ℕ, pos}
use Rattle.trial_model.specs.Fits.{link_fixed_at}
use Rattle.run_engine.proofs.FillLemmas.{Filled}
use Rattle.run_engine.proofs.hot.keep_settings.Given as goal

abbrev pub invariant-loop-l : goal.invariant-loop-l
invariant-loop-l l = Filled (λ (k : ℕ). (link_fixed_at l.links k).setting) (pos 0) l.initial.settings l.settings l.l
