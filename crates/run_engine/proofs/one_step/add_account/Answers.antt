use Rattle.std.proofs.Common.{◌∙◌, ◌+◌, ℕ, sym, ap, refl, arith}
use Rattle.std.proofs.lemmas.Int.{to_z-of_z}
use Rattle.run_engine.specs.Results.{account_at}
use Rattle.run_engine.specs.StepLines.{line_before}
use Rattle.run_engine.proofs.KeptLemmas.{account_here, states_step}
use Rattle.run_engine.proofs.StateLemmas.{floods_more}
use Rattle.run_engine.proofs.one_step.add_account.Goals as goal

pub account_step-account-requires-clause-step : goal.account_step-account-requires-clause-step
account_step-account-requires-clause-step c =
    simp (to_z-of_z, c.ranges.dt)
    (states_step c.args.start.now c.args.law.now.hydraulics c.args.k c.args.before.now c.args.nets.now c.args.dt c.requires.law c.requires.before c.requires.next c.requires.length)

pub account_step-account-requires-clause-floods : goal.account_step-account-requires-clause-floods
account_step-account-requires-clause-floods c =
    c.requires.floods.same ∙ floods_more c.args.start.now c.args.k ∙ rw (c.requires.law, c.requires.next.same) refl

pub add-requires-2-clause-few : goal.add-requires-2-clause-few
add-requires-2-clause-few c = omega (arith, c.requires.since.steps, c.requires.few)

pub returns-clause-total : goal.returns-clause-total
returns-clause-total c =
    let start = c.args.start.now in
    let value = simp (to_z-of_z, c.ranges.dt) at c.account_step-account.ensures.value in
    let here = account_here start c.args.law.now.hydraulics c.args.k c.args.before.now c.args.nets.now c.args.dt c.account_step-account.result c.requires.law c.requires.before c.requires.next c.requires.length value in
    record {
      steps = c.add.ensures.steps ∙ ap (λ (n : ℕ). n + 1) c.requires.total.steps;
      total = c.add.ensures.total (account_at start) c.requires.total.total (here ∙ ap (account_at start) (sym c.requires.total.steps));
    }

pub returns-clause-since : goal.returns-clause-since
returns-clause-since c =
    let start = c.args.start.now in
    let from = line_before start (c.args.k + 1) in
    let value = simp (to_z-of_z, c.ranges.dt) at c.account_step-account.ensures.value in
    let here = account_here start c.args.law.now.hydraulics c.args.k c.args.before.now c.args.nets.now c.args.dt c.account_step-account.result c.requires.law c.requires.before c.requires.next c.requires.length value in
    record {
      steps = omega (arith, c.add-2.ensures.steps, c.requires.since.steps);
      total = c.add-2.ensures.total (λ j. account_at start (from + j)) c.requires.since.total (here ∙ ap (account_at start) (sym c.requires.since.steps));
    }
