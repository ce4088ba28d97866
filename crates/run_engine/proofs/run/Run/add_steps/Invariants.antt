-- The lines of the states so far are added.
use Rattle.std.proofs.Common.{◌-◌}
use Rattle.run_engine.proofs.StepsLemmas.{HasAdded}
use Rattle.run_engine.proofs.run.Run.add_steps.Given as goal

abbrev pub invariant-loop-self : goal.invariant-loop-self
invariant-loop-self g l = HasAdded l.initial.report l.report l.initial.self.start l.self.start l.self.counts.steps

abbrev pub decreases-loop-self : goal.decreases-loop-self
decreases-loop-self g l = 50_000_000 - l.self.counts.steps
