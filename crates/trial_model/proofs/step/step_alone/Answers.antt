use Rattle.std.proofs.Common.{◌≡◌, ℕ, ◌+◌, ◌≤◌, true, false, refl, sym, subst, arith}
use Rattle.trial_model.specs.declared.nets.Nets.{Nets}
use Rattle.trial_model.specs.Fits.{Fits}
use Rattle.trial_model.specs.Trial.{SumsOf}
use Rattle.trial_model.proofs.TrialLemmas.{trials_fit, trials_sums}
use Rattle.trial_model.proofs.StepLemmas.{TrialsMade, made_none, state_more, made_more, made_settled, made_all, is_end, end_unique}
use Rattle.trial_model.proofs.step.step_alone.Goals as goal

pub loop-made-init : goal.loop-made-init
loop-made-init g c = made_none (g.P.PhaseLaw.law c.args.law.now) c.args.nets.now

pub trial_alone-unsettled-requires : goal.trial_alone-unsettled-requires
trial_alone-unsettled-requires g c =
    let law = g.P.PhaseLaw.law c.args.law.now in
    let good = g.met.P.PhaseLaw.good c.args.law.now in
    subst (λ (t : Nets). Fits law t) (sym c.loop-made.invariant.state_is) (trials_fit good c.requires.fits c.loop-made.made)

pub loop-made-preserved : goal.loop-made-preserved
loop-made-preserved g c =
    made_more c.loop-made.invariant c.trial_alone-unsettled.ensures.nets c.trial_alone-unsettled.ensures.unsettled
    (λ done. let on : false ≡ true = c.if-ends_step.ensures.1 done in cc)

pub returns-then-ends_step-clause-end : goal.returns-then-ends_step-clause-end
returns-then-ends_step-clause-end g c =
    let done : (2 ≤ c.loop-made.made + 1) × (c.trial_alone-unsettled.result ≡ 0) = c.if-ends_step.ensures.0 refl in
    made_settled c.loop-made.invariant c.trial_alone-unsettled.ensures.nets c.trial_alone-unsettled.ensures.unsettled
    c.args.max_trials c.loop-made-test.true done

pub returns-then-ends_step-clause-value : goal.returns-then-ends_step-clause-value
returns-then-ends_step-clause-value g c =
    let law = g.P.PhaseLaw.law c.args.law.now in
    let s = c.args.nets.now in
    let most = c.args.max_trials in
    end_unique law s most _ _ (returns-then-ends_step-clause-end g c) (is_end law s most c.requires.least)

pub returns-then-ends_step-clause-nets : goal.returns-then-ends_step-clause-nets
returns-then-ends_step-clause-nets g c =
    state_more c.loop-made.invariant c.trial_alone-unsettled.ensures.nets c.trial_alone-unsettled.ensures.unsettled

pub returns-clause-value : goal.returns-clause-value
returns-clause-value g c =
    let law = g.P.PhaseLaw.law c.args.law.now in
    let s = c.args.nets.now in
    let most = c.args.max_trials in
    let all : c.loop-made.made ≡ most = omega (arith, c.loop-made-test.false, c.loop-made.auto.made-end) in
    let made = subst (λ (m : ℕ). TrialsMade law s c.loop-made.nets m) all c.loop-made.invariant in
    end_unique law s most _ _ (made_all made c.requires.least) (is_end law s most c.requires.least)

pub returns-clause-fits : goal.returns-clause-fits
returns-clause-fits g c =
    let law = g.P.PhaseLaw.law c.args.law.now in
    let good = g.met.P.PhaseLaw.good c.args.law.now in
    subst (λ (t : Nets). Fits law t) (sym c.loop-made.invariant.state_is) (trials_fit good c.requires.fits c.loop-made.made)

pub returns-clause-sums : goal.returns-clause-sums
returns-clause-sums g c =
    let law = g.P.PhaseLaw.law c.args.law.now in
    let some : 1 ≤ c.loop-made.made = omega (arith, c.loop-made-test.false, c.requires.least) in
    subst (λ (t : Nets). SumsOf law t) (sym c.loop-made.invariant.state_is)
    (trials_sums law c.args.nets.now c.loop-made.made some)
