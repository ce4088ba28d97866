use Rattle.std.proofs.Common.{◌≡◌, sym, subst}
use Rattle.run_engine.specs.Progress.{Progress, IsAt}
use Rattle.run_engine.specs.States.{steps_of}
use Rattle.run_engine.proofs.LineLemmas.{last_is}
use Rattle.run_engine.proofs.ReportLemmas.{steps_at}
use Rattle.run_engine.proofs.run.Run.add_last.Goals as goal

pub returns : goal.returns
returns g c =
    let s = c.self.inside in
    let inside : Progress = record {
      start = s.start;
      nets = s.kept.nets;
      total = s.kept.total.total;
      nodes = s.kept.sums.nodes;
      links = s.kept.sums.links;
      outfalls = s.kept.outfalls.outfalls;
      subs = s.kept.subs.subs;
      counts = s.kept.counts;
      last = s.last;
    } in
    let here : c.args.self.now ≡ inside = sym c.self.view_is in
    let at = subst (λ (p : Progress). IsAt p (steps_of p.start)) here c.requires in
    let last = steps_at inside (steps_of s.start) at in
    let line = last_is s.start s.kept.counts.steps s.since s.kept.moment c.self.invariant.1 c.self.invariant.0.clock.same in
    rw (here, sym last, sym line) c.add_last_line.ensures
