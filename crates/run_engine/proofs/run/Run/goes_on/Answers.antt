use Rattle.std.proofs.Common.{rules, ◌≡◌, ◌∙◌, sym, subst, arith, FitsSigned, w64}
use Rattle.std.proofs.lemmas.Int.{to_z-of_z}
use Rattle.run_engine.specs.Progress.{Progress, IsAt}
use Rattle.run_engine.specs.States.{steps_of}
use Rattle.run_engine.proofs.ClockLemmas.{steps_ended, steps_full}
use Rattle.run_engine.proofs.KeptLemmas.{kept_at}
use Rattle.run_engine.proofs.RunLemmas.{run_options}
use Rattle.run_engine.proofs.run.Run.goes_on.Goals as goal

pub goes_on-requires : goal.goes_on-requires
goes_on-requires c = run_options c.self.inside.start.project c.self.invariant.0.ready

pub returns-then-self-lt50000000-clause-at : goal.returns-then-self-lt50000000-clause-at
returns-then-self-lt50000000-clause-at c = subst (λ (run : Progress). IsAt run run.counts.steps) c.self.view_is (kept_at c.self.invariant.0)

pub returns-else-self-lt50000000-clause-at : goal.returns-else-self-lt50000000-clause-at
returns-else-self-lt50000000-clause-at c = subst (λ (run : Progress). IsAt run run.counts.steps) c.self.view_is (kept_at c.self.invariant.0)

pub returns-then-self-lt50000000-clause-last : goal.returns-then-self-lt50000000-clause-last
returns-then-self-lt50000000-clause-last c past =
    let fits : FitsSigned w64 c.self.inside.kept.moment = search rules in
    let goes = simp (to_z-of_z, fits) at c.goes_on.ensures in
    subst (λ (run : Progress). run.counts.steps ≡ steps_of run.start) c.self.view_is
    (steps_ended (run_options c.self.inside.start.project c.self.invariant.0.ready) c.self.invariant.0.clock (sym goes ∙ past))

pub returns-else-self-lt50000000-clause-last : goal.returns-else-self-lt50000000-clause-last
returns-else-self-lt50000000-clause-last c past =
    subst (λ (run : Progress). run.counts.steps ≡ steps_of run.start) c.self.view_is
    (steps_full c.self.invariant.0.clock (omega (arith, c.if-self-lt50000000.false, c.self.invariant.0.clock.few)))
