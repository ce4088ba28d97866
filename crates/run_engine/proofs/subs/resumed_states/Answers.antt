use Rattle.std.proofs.Common.{◌≡◌, ◌∙◌, ◌^◌, pos, length, map, sym, ap, subst}
use Rattle.runoff_states.specs.RunoffStates.{AreKeptStates, AreStatesUpTo}
use Rattle.trial_model.proofs.TrialLemmas.{written_whole}
use Rattle.run_engine.specs.Laterals.{state_in}
use Rattle.run_engine.proofs.HotLemmas.{hot_kept, kept_more}
use Rattle.run_engine.proofs.subs.resumed_states.Goals as goal
use Rattle.run_engine.proofs.subs.resumed_states.Goals.{After-as_mut_slice}

lent : (c : After-as_mut_slice) → c.as_mut_slice.result.now ≡ map state_in c.args.hot.now.subs
lent c = c.as_mut_slice.ensures.value ∙ c.in_ok-states.ensures ∙ ap (map state_in) c.as_slice.ensures

kept : (c : After-as_mut_slice) → AreKeptStates (pos (10 ^ 15)) c.args.project.now c.as_mut_slice.result.now
kept c =
    subst (AreKeptStates (pos (10 ^ 15)) c.args.project.now) (sym (lent c))
    (hot_kept c.args.project.now c.args.hot.now c.requires.project c.requires.hot)

pub open_states-requires-clause-kept : goal.open_states-requires-clause-kept
open_states-requires-clause-kept c = kept_more (kept c)

pub returns-clause-range : goal.returns-clause-range
returns-clause-range c =
    let all = written_whole _ _ (c.open_states.auto.states ∙ ap length c.as_mut_slice.ensures.value) in
    subst (AreStatesUpTo (pos (10 ^ 15)) c.args.project.now) (sym all)
    (c.open_states.ensures.range (pos (10 ^ 15))
    (subst (AreKeptStates (pos (10 ^ 15)) c.args.project.now) (sym (c.as_mut_slice.ensures.value ∙ c.in_ok-states.ensures ∙ ap (map state_in) c.as_slice.ensures))
    (hot_kept c.args.project.now c.args.hot.now c.requires.project c.requires.hot)))
