use Rattle.trial_model.proofs.StepLemmas.{TrialsMade}
use Rattle.trial_model.proofs.step.step_alone.Given as goal

abbrev pub invariant-loop-made : goal.invariant-loop-made
invariant-loop-made g l = TrialsMade (g.P.PhaseLaw.law l.law) l.initial.nets l.nets l.made
