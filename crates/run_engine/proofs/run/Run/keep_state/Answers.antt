use Rattle.std.proofs.Common.{◌≡◌, ◌∙◌, ap, subst, sym}
use Rattle.run_engine.specs.Hot.{hot_at}
use Rattle.run_engine.specs.Progress.{IsAt, Progress}
use Rattle.run_engine.specs.States.{steps_of}
use Rattle.run_engine.proofs.ReportLemmas.{steps_at}
use Rattle.run_engine.proofs.run.Run.keep_state.Goals as goal

pub returns-clause-last : goal.returns-clause-last
returns-clause-last c =
    let s = c.self.inside in
    let inside : Progress = record {
      start = s.start;
      nets = s.kept.nets;
      total = s.kept.total.total;
      nodes = s.kept.sums.nodes;
      links = s.kept.sums.links;
      outfalls = s.kept.outfalls.outfalls;
      subs = s.kept.subs.subs;
      counts = s.kept.counts;
      last = s.last;
    } in
    let here : c.args.self.now ≡ inside = sym c.self.view_is in
    let at = subst (λ (p : Progress). IsAt p (steps_of p.start)) here c.requires in
    c.keep_last.ensures.state ∙ ap (hot_at s.start) (steps_at inside (steps_of s.start) at)
