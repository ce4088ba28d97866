use Rattle.std.proofs.Common.{ap, sym, subst, ◌∙◌}
use Rattle.fixed_num.specs.Sums.{below}
use Rattle.trial_model.specs.declared.nets.Nets.{Nets}
use Rattle.trial_model.specs.Fits.{Fits}
use Rattle.fixed_num.specs.Lists.{list_of}
use Rattle.trial_model.specs.Trial.{next_in, unsettled_part, trial, unsettled_in, SumsOf}
use Rattle.trial_model.proofs.RangeLemmas.{with_flows_fit}
use Rattle.trial_model.proofs.TrialLemmas.{trial_fits, trial_sums}
use Rattle.trial_model.proofs.trial.trial_alone.Goals as goal

pub head_phase-requires : goal.head_phase-requires
head_phase-requires g c =
    let law = g.P.PhaseLaw.law c.args.law.now in
    let good = g.met.P.PhaseLaw.good c.args.law.now in
    subst (λ (t : Nets). Fits law t) (sym c.flow_phase.ensures) (with_flows_fit good c.requires c.args.first)

pub returns-clause-nets : goal.returns-clause-nets
unfolding trial
returns-clause-nets g c =
    let law = g.P.PhaseLaw.law c.args.law.now in
    let first = c.args.first in
    c.head_phase.ensures.nets
    ∙ ap (λ (t : Nets). record t { heads = list_of (λ n. (next_in law t first n).head) law.nodes }) c.flow_phase.ensures

pub returns-clause-unsettled : goal.returns-clause-unsettled
unfolding unsettled_in
returns-clause-unsettled g c =
    let law = g.P.PhaseLaw.law c.args.law.now in
    let first = c.args.first in
    c.head_phase.ensures.count
    ∙ ap (λ (t : Nets). below (λ n. unsettled_part (next_in law t first n).settled) law.nodes) c.flow_phase.ensures

pub returns-clause-fits : goal.returns-clause-fits
returns-clause-fits g c =
    let law = g.P.PhaseLaw.law c.args.law.now in
    let good = g.met.P.PhaseLaw.good c.args.law.now in
    subst (λ (t : Nets). Fits law t) (sym (returns-clause-nets g c)) (trial_fits good c.requires c.args.first)

pub returns-clause-sums : goal.returns-clause-sums
returns-clause-sums g c =
    let law = g.P.PhaseLaw.law c.args.law.now in
    subst (λ (t : Nets). SumsOf law t) (sym (returns-clause-nets g c)) (trial_sums law c.args.nets.now c.args.first)
