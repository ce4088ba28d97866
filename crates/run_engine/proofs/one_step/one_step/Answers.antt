use Rattle.std.proofs.Common.{rules, ◌∙◌, ◌+◌, ◌+ℤ◌, ℕ, ℤ, length, ap, subst, sym, FitsSigned, w64, to_z, of_z}
use Rattle.std.proofs.lemmas.Int.{to_z-of_z}
use Rattle.trial_model.proofs.TrialLemmas.{written_whole}
use Rattle.trial_model.specs.Fits.{Fits}
use Rattle.run_engine.specs.Kept.{AreCountsAt, AreLoadsAt, AreRunoffsOf, AreSumsOf, IsMomentAt, IsStateAt, IsTotalAt, IsTotalFrom}
use Rattle.run_engine.specs.States.{project_law}
use Rattle.run_engine.specs.StepLines.{line_before}
use Rattle.runoff_states.specs.RunoffTimes.{steps_done}
use Rattle.run_engine.specs.Laterals.{IsRunoffAt}
use Rattle.run_engine.proofs.InputLemmas.{ends_by, run_within, settings_begin}
use Rattle.run_engine.proofs.KeptLemmas.{clock_next, finish_here, length_here}
use Rattle.run_engine.proofs.OutfallLemmas.{length_next}
use Rattle.run_engine.proofs.SubLemmas.{earlier_here}
use Rattle.run_engine.proofs.SumsLemmas.{floods_count}
use Rattle.run_engine.proofs.RunLemmas.{run_moment, run_options}
use Rattle.run_engine.proofs.one_step.one_step.Goals as goal

pub next_span-span-requires-clause-options : goal.next_span-span-requires-clause-options
next_span-span-requires-clause-options c = run_options c.args.start.now.project c.requires.kept.ready

pub step_on-end-requires-clause-finish : goal.step_on-end-requires-clause-finish
step_on-end-requires-clause-finish c =
    let moment : FitsSigned w64 c.args.kept.now.moment = search rules in
    let least : FitsSigned w64 c.args.kept.now.nets.least = search rules in
    let finish : FitsSigned w64 c.next_span-span.result.finish = search rules in
    let e = simp (to_z-of_z, moment, least) at c.next_span-span.ensures.finish in
    simp (to_z-of_z, finish) (finish_here c.requires.kept e)

pub advance_runoff-requires-clause-moment : goal.advance_runoff-requires-clause-moment
advance_runoff-requires-clause-moment c =
    let finish : FitsSigned w64 c.next_span-span.result.finish = search rules in
    simp (to_z-of_z, finish)
    (ends_by (run_options c.args.start.now.project c.requires.kept.ready) c.next_span-span.ensures.range.finish_in)

pub advance_runoff-requires-clause-earlier : goal.advance_runoff-requires-clause-earlier
advance_runoff-requires-clause-earlier c =
    let moment : FitsSigned w64 c.args.kept.now.moment = search rules in
    let least : FitsSigned w64 c.args.kept.now.nets.least = search rules in
    let finish : FitsSigned w64 c.next_span-span.result.finish = search rules in
    let ends = simp (to_z-of_z, moment, least) at c.next_span-span.ensures.finish in
    let lasts = simp (to_z-of_z, moment, least) at c.next_span-span.ensures.length in
    simp (to_z-of_z, finish)
    (earlier_here c.next_span-span.result.finish c.next_span-span.result.length c.requires.kept
    (ends ∙ ap (λ (d : ℤ). c.args.kept.now.moment +ℤ d) (sym lasts)) c.next_span-span.ensures.range)

pub find_laterals-requires-clause-calendar : goal.find_laterals-requires-clause-calendar
find_laterals-requires-clause-calendar c =
    let finish : FitsSigned w64 c.next_span-span.result.finish = search rules in
    simp (to_z-of_z, finish) (run_moment c.args.start.now.project c.requires.kept.ready c.next_span-span.ensures.range.finish_in)

pub find_laterals-requires-clause-moment : goal.find_laterals-requires-clause-moment
find_laterals-requires-clause-moment c =
    let finish : FitsSigned w64 c.next_span-span.result.finish = search rules in
    simp (to_z-of_z, finish)
    (run_within (run_options c.args.start.now.project c.requires.kept.ready) c.next_span-span.ensures.range.finish_in)

pub find_laterals-requires-clause-runoff : goal.find_laterals-requires-clause-runoff
find_laterals-requires-clause-runoff c = c.advance_runoff.ensures.runoff

pub find_laterals-requires-clause-places : goal.find_laterals-requires-clause-places
find_laterals-requires-clause-places c = ap length c.as_mut_slice-laterals.ensures.value ∙ c.requires.kept.lateral_room

pub find_settings-requires-clause-moment : goal.find_settings-requires-clause-moment
find_settings-requires-clause-moment c =
    let moment : FitsSigned w64 c.args.kept.now.moment = search rules in
    simp (to_z-of_z, moment) (run_moment c.args.start.now.project c.requires.kept.ready c.requires.kept.clock.range)

pub find_settings-requires-clause-fits : goal.find_settings-requires-clause-fits
find_settings-requires-clause-fits c = c.requires.kept.now.fits

pub find_settings-requires-clause-places : goal.find_settings-requires-clause-places
find_settings-requires-clause-places c = c.requires.kept.setting_room

pub step_on-end-requires-clause-laterals : goal.step_on-end-requires-clause-laterals
step_on-end-requires-clause-laterals c = c.find_laterals.ensures

pub step_on-end-requires-clause-settings : goal.step_on-end-requires-clause-settings
step_on-end-requires-clause-settings c =
    let moment : FitsSigned w64 c.args.kept.now.moment = search rules in
    let least : FitsSigned w64 c.args.kept.now.nets.least = search rules in
    let finish : FitsSigned w64 c.next_span-span.result.finish = search rules in
    let length : FitsSigned w64 c.next_span-span.result.length = search rules in
    let ends = simp (to_z-of_z, moment, least) at c.next_span-span.ensures.finish in
    let lasts = simp (to_z-of_z, moment, least) at c.next_span-span.ensures.length in
    let found = simp (to_z-of_z, moment) at c.find_settings.ensures.settings in
    simp (to_z-of_z, finish, length)
    (settings_begin c.args.start.now.project c.args.kept.now.nets c.args.kept.now.moment c.next_span-span.result.finish
    c.next_span-span.result.length (ends ∙ ap (λ (d : ℤ). c.args.kept.now.moment +ℤ d) (sym lasts))
    (c.as_slice.ensures ∙ found))

pub add_state-requires-clause-moment : goal.add_state-requires-clause-moment
add_state-requires-clause-moment c =
    let moment : FitsSigned w64 c.args.kept.now.moment = search rules in
    let least : FitsSigned w64 c.args.kept.now.nets.least = search rules in
    let finish : FitsSigned w64 c.next_span-span.result.finish = search rules in
    let e = simp (to_z-of_z, moment, least) at c.next_span-span.ensures.finish in
    simp (to_z-of_z, finish) (finish_here c.requires.kept e)

pub add_load-requires-clause-length : goal.add_load-requires-clause-length
add_load-requires-clause-length c =
    let moment : FitsSigned w64 c.args.kept.now.moment = search rules in
    let least : FitsSigned w64 c.args.kept.now.nets.least = search rules in
    let length : FitsSigned w64 c.next_span-span.result.length = search rules in
    let lasts = simp (to_z-of_z, moment, least) at c.next_span-span.ensures.length in
    simp (to_z-of_z, length) (length_here c.requires.kept lasts ∙ length_next c.args.start.now c.args.kept.now.counts.steps)

pub add_load-requires-clause-time : goal.add_load-requires-clause-time
add_load-requires-clause-time c =
    let length : FitsSigned w64 c.next_span-span.result.length = search rules in
    let time = c.next_span-span.ensures.range.length_in in
    simp (to_z-of_z, length) (record { from = time.least; to = time.most })

pub returns-clause-since : goal.returns-clause-since
returns-clause-since c =
    subst (λ (k : ℕ). IsTotalFrom c.args.start.now (line_before c.args.start.now k) k c.add_account.new.since) (sym c.add_counts.ensures.steps) c.add_account.ensures.since

pub returns-clause-kept : goal.returns-clause-kept
returns-clause-kept c =
    let start = c.args.start.now in
    let kept = c.requires.kept in
    let moment : FitsSigned w64 c.args.kept.now.moment = search rules in
    let least : FitsSigned w64 c.args.kept.now.nets.least = search rules in
    let finish : FitsSigned w64 c.next_span-span.result.finish = search rules in
    let e = simp (to_z-of_z, moment, least) at c.next_span-span.ensures.finish in
    let range = c.next_span-span.ensures.range.finish_in in
    let clock : IsMomentAt start (c.args.kept.now.counts.steps + 1) c.next_span-span.result.finish = clock_next kept e range c.requires.going c.requires.few in
    let steps = sym c.add_counts.ensures.steps in
    let laterals = written_whole _ _ (c.find_laterals.auto.laterals ∙ ap length c.as_mut_slice-laterals.ensures.value) in
    let floods = written_whole _ _ (c.add_floods.auto.floods ∙ ap length c.as_mut_slice-floods.ensures.value) in
    record {
      ready = kept.ready;
      hot = kept.hot;
      law = kept.law;
      clock =
          subst (λ (k : ℕ). IsMomentAt start k (to_z w64 (of_z w64 c.next_span-span.result.finish))) steps
          (subst (IsMomentAt start (c.args.kept.now.counts.steps + 1)) (sym (to_z-of_z w64 c.next_span-span.result.finish finish)) clock);
      now = subst (λ (k : ℕ). IsStateAt start k c.step_on-end.new.nets) steps c.step_on-end.ensures.next;
      room = subst (Fits (project_law start.project)) (sym c.step_on-end.ensures.before) kept.now.fits;
      lateral_room = ap length laterals ∙ c.find_laterals.auto.laterals ∙ ap length c.as_mut_slice-laterals.ensures.value ∙ kept.lateral_room;
      runoff =
          subst (λ (m : ℤ). IsRunoffAt start m c.advance_runoff.new.runoff) (sym (to_z-of_z w64 c.next_span-span.result.finish finish))
          (simp (to_z-of_z, finish) at c.advance_runoff.ensures.runoff);
      setting_room = c.find_settings.ensures.places;
      flood_room = ap length floods ∙ ap length c.add_floods.ensures.floods.same ∙ floods_count start (c.args.kept.now.counts.steps + 1);
      summed = subst (λ (k : ℕ). AreSumsOf start (k + 1) c.add_state.new.sums) steps c.add_state.ensures.sums;
      loaded = subst (λ (k : ℕ). AreLoadsAt start (k + 1) c.add_load.new.outfalls) steps c.add_load.ensures.outfalls;
      rained =
          subst (λ (m : ℤ). AreRunoffsOf start (steps_done start.project.options.wet_ms m) c.advance_runoff.new.subs) (sym (to_z-of_z w64 c.next_span-span.result.finish finish))
          (simp (to_z-of_z, finish) at c.advance_runoff.ensures.summaries);
      totalled = subst (λ (k : ℕ). IsTotalAt start k c.add_account.new.total) steps c.add_account.ensures.total;
      counted = subst (λ (k : ℕ). AreCountsAt start k c.add_counts.new.counts) steps c.add_counts.ensures.counts;
    }
