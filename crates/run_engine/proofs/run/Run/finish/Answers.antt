use Rattle.std.proofs.Common.{◌≡◌, sym, subst}
use Rattle.run_engine.specs.Progress.{Progress, IsAt}
use Rattle.run_engine.specs.States.{steps_of}
use Rattle.run_engine.proofs.ReportLemmas.{tail_is}
use Rattle.run_engine.proofs.VolumeLemmas.{sums_small}
use Rattle.run_engine.proofs.SubLemmas.{few_done}
use Rattle.run_engine.proofs.run.Run.finish.Goals as goal

pub put_figures-requires-clause-subs : goal.put_figures-requires-clause-subs
put_figures-requires-clause-subs g c = sums_small c.self.invariant.0.ready c.self.invariant.0.hot (few_done c.self.invariant.0) c.self.invariant.0.rained

pub returns-clause-bytes : goal.returns-clause-bytes
returns-clause-bytes g c =
    let s = c.self.inside in
    let inside : Progress = record {
      start = s.start;
      nets = s.kept.nets;
      total = s.kept.total.total;
      nodes = s.kept.sums.nodes;
      links = s.kept.sums.links;
      outfalls = s.kept.outfalls.outfalls;
      subs = s.kept.subs.subs;
      counts = s.kept.counts;
      last = s.last;
    } in
    let here : c.args.self.now ≡ inside = sym c.self.view_is in
    let at = subst (λ (p : Progress). IsAt p (steps_of p.start)) here c.requires in
    let bytes = rw c.total-total.ensures.value at c.put_figures.ensures.bytes in
    rw (here, sym (tail_is inside (steps_of inside.start) at)) bytes
