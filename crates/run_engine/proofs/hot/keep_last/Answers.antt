use Rattle.std.proofs.Common.{◌∙◌, ap, length, map, subst, sym}
use Rattle.hotstart.specs.HotRanges.{IsHotState}
use Rattle.hotstart.specs.declared.state.HotState.{HotState}
use Rattle.trial_model.proofs.TrialLemmas.{written_whole}
use Rattle.run_engine.specs.Hot.{IsRoomFor, sub_in}
use Rattle.run_engine.proofs.HotLemmas.{hot_is, hot_room, hot_written}
use Rattle.run_engine.proofs.LawLemmas.{law_links, law_nodes}
use Rattle.run_engine.proofs.hot.keep_last.Goals as goal

pub keep_nets-requires-clause-heads : goal.keep_nets-requires-clause-heads
keep_nets-requires-clause-heads c =
    c.requires.room.heads ∙ sym (c.requires.kept.now.fits.heads.count ∙ law_nodes c.args.start.now.project)

pub keep_nets-requires-clause-flows : goal.keep_nets-requires-clause-flows
keep_nets-requires-clause-flows c =
    c.requires.room.flows ∙ sym (c.requires.kept.now.fits.flows.count ∙ law_links c.args.start.now.project)

pub keep_nets-requires-clause-settings : goal.keep_nets-requires-clause-settings
keep_nets-requires-clause-settings c =
    c.requires.room.settings ∙ sym (c.requires.kept.now.fits.links.count ∙ law_links c.args.start.now.project)

pub keep_subs-requires : goal.keep_subs-requires
keep_subs-requires c =
    ap length c.as_mut_slice.ensures.value ∙ ap (λ (s : HotState). length s.subs) c.keep_nets.ensures ∙ c.requires.room.subs
    ∙ sym (ap length c.as_slice.ensures ∙ c.requires.kept.runoff.states.each_sub)

pub returns-clause-state : goal.returns-clause-state
returns-clause-state c =
    let nets = c.keep_nets.ensures in
    let whole = written_whole _ _ (c.keep_subs.auto.subs ∙ ap length c.as_mut_slice.ensures.value) in
    hot_is c.requires.kept
    (ap (λ (s : HotState). s.kind) nets ∙ c.requires.room.kind)
    (ap (λ (s : HotState). s.heads) nets)
    (ap (λ (s : HotState). s.flows) nets)
    (ap (λ (s : HotState). s.settings) nets)
    (ap (λ (s : HotState). s.least) nets)
    (whole ∙ c.keep_subs.ensures ∙ ap (map sub_in) c.as_slice.ensures)

pub returns-clause-written : goal.returns-clause-written
returns-clause-written c = subst IsHotState (sym (returns-clause-state c)) (hot_written c.requires.kept)

pub returns-clause-room : goal.returns-clause-room
returns-clause-room c = subst (IsRoomFor c.args.start.now.project) (sym (returns-clause-state c)) (hot_room c.requires.kept)
