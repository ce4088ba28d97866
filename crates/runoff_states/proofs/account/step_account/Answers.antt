use Rattle.std.proofs.Common.{◌≤◌, arith}
use Rattle.std.proofs.lemmas.Int.{to_z-of_z}
use Rattle.fixed_num.proofs.Bounds.{within_add, fits128}
use Rattle.runoff_states.proofs.AccountLemmas.{balances, few_fit, no_step, summed_more}
use Rattle.runoff_states.proofs.account.step_account.Goals as goal

pub overflow_add-sums-in-loop-step-2 : goal.overflow_add-sums-in-loop-step-2
overflow_add-sums-in-loop-step-2 c =
    let few : c.loop-step.step-index ≤ 20_000 = omega (arith, c.loop-step-test.true, c.requires.few) in
    let sums = few_fit c.loop-step.invariant few in
    let range = c.requires.range c.loop-step.step-index no_step c.loop-step-test.true in
    simp (to_z-of_z, fits128 sums.runoff tt, fits128 range.runoff tt) (fits128 (within_add sums.runoff range.runoff) tt)

pub overflow_add-sums-in-loop-step-3 : goal.overflow_add-sums-in-loop-step-3
overflow_add-sums-in-loop-step-3 c =
    let few : c.loop-step.step-index ≤ 20_000 = omega (arith, c.loop-step-test.true, c.requires.few) in
    let sums = few_fit c.loop-step.invariant few in
    let range = c.requires.range c.loop-step.step-index no_step c.loop-step-test.true in
    simp (to_z-of_z, fits128 sums.stored tt, fits128 range.stored tt) (fits128 (within_add sums.stored range.stored) tt)

pub loop-step-preserved : goal.loop-step-preserved
loop-step-preserved c =
    let few : c.loop-step.step-index ≤ 20_000 = omega (arith, c.loop-step-test.true, c.requires.few) in
    let sums = few_fit c.loop-step.invariant few in
    let range = c.requires.range c.loop-step.step-index no_step c.loop-step-test.true in
    simp (
      to_z-of_z,
      fits128 sums.rain tt,
      fits128 range.rain tt,
      fits128 (within_add sums.rain range.rain) tt,
      fits128 sums.infil tt,
      fits128 range.infil tt,
      fits128 (within_add sums.infil range.infil) tt,
      fits128 sums.runoff tt,
      fits128 range.runoff tt,
      fits128 (within_add sums.runoff range.runoff) tt,
      fits128 sums.stored tt,
      fits128 range.stored tt,
      fits128 (within_add sums.stored range.stored) tt,
    )
    (summed_more c.loop-step.invariant no_step c.loop-step-test.true range)

pub returns-clause-balance : goal.returns-clause-balance
returns-clause-balance c =
    balances c.closed.result.rain c.closed.result.infil c.closed.result.runoff c.closed.result.stored
    c.closed.result.error c.loop-step.sums.rain c.loop-step.sums.infil c.loop-step.sums.runoff c.loop-step.sums.stored
    c.closed.ensures.rain c.closed.ensures.infil c.closed.ensures.runoff c.closed.ensures.stored c.closed.ensures.error
