use Rattle.std.proofs.Common.{sym, subst}
use Rattle.std.proofs.lemmas.Int.{to_z-of_z}
use Rattle.fixed_num.proofs.Bounds.{within_between, fits64}
use Rattle.runoff.specs.declared.states.SubStep.{SubStep}
use Rattle.runoff_states.specs.RunoffAccount.{IsClosed}
use Rattle.runoff_states.proofs.BalanceLemmas.{step_closed}
use Rattle.runoff_states.proofs.all.step_one.Goals as goal

pub returns-clause-closed : goal.returns-clause-closed
returns-clause-closed c = subst (λ (v : SubStep). IsClosed v) (sym c.step_sub.ensures.step) (step_closed _ _ _ _)

pub returns-clause-growth : goal.returns-clause-growth
returns-clause-growth c =
    let wet = c.requires.sound.options.wet_in in
    simp (to_z-of_z, fits64 (within_between wet) tt) at c.step_sub.ensures.growth
