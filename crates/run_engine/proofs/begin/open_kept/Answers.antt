use Rattle.std.proofs.Common.{◌∙◌, length, pos, ap, subst}
use Rattle.std.proofs.lemmas.List.{length-replicate}
use Rattle.continuity.specs.Run.{Running}
use Rattle.link_eval.specs.Good.{IsGood}
use Rattle.run_engine.specs.Results.{account_at}
use Rattle.run_engine.proofs.KeptLemmas.{opening_at, opening_floods}
use Rattle.run_engine.proofs.ClockLemmas.{moment_first}
use Rattle.run_engine.proofs.OpeningLemmas.{laterals_count}
use Rattle.run_engine.proofs.RunLemmas.{run_options}
use Rattle.run_engine.proofs.StateLemmas.{counted_none}
use Rattle.run_engine.proofs.SubLemmas.{opened_runoffs}
use Rattle.run_engine.proofs.begin.open_kept.Goals as goal

pub open_state-requires-clause-laterals : goal.open_state-requires-clause-laterals
open_state-requires-clause-laterals c = c.as_slice.ensures ∙ c.in_ok-water.ensures.laterals

pub open_summaries-requires-clause-now : goal.open_summaries-requires-clause-now
open_summaries-requires-clause-now c =
    let good = subst IsGood c.requires.law c.args.law.now.good in
    opening_at c.args.start.now c.in_ok-nets.nets good c.requires.project c.requires.hot c.in_ok-nets.ensures

pub open_summaries-requires-clause-floods : goal.open_summaries-requires-clause-floods
open_summaries-requires-clause-floods c = opening_floods c.args.start.now _ c.in_ok-rooms.ensures.floods

pub returns-clause-kept : goal.returns-clause-kept
returns-clause-kept c =
    let start = c.args.start.now in
    let project = start.project in
    let good = subst IsGood c.requires.law c.args.law.now.good in
    record {
      ready = c.requires.project;
      hot = c.requires.hot;
      law = c.requires.law;
      clock = moment_first start (run_options project c.requires.project);
      now = opening_at start c.in_ok-nets.nets good c.requires.project c.requires.hot c.in_ok-nets.ensures;
      room = c.in_ok-rooms.ensures.before;
      lateral_room = laterals_count start (pos 0) c.in_ok-water.ensures.laterals;
      runoff = c.in_ok-water.ensures.runoff;
      setting_room = c.in_ok-rooms.ensures.settings;
      flood_room = ap length c.in_ok-rooms.ensures.floods ∙ length-replicate (length project.nodes) (pos 0);
      summed = c.in_ok-opened.ensures.sums;
      loaded = c.in_ok-opened.ensures.outfalls;
      rained = opened_runoffs start c.requires.project c.in_ok-opened.opened.subs c.in_ok-opened.ensures.subs c.in_ok-opened.ensures.small;
      totalled = record { steps = ap (λ (running : Running). running.steps) c.new.ensures.value; total = c.new.ensures.total (account_at start) };
      counted = counted_none start;
    }
