-- The head and the heading, and then the lines.
use Rattle.std.proofs.Common.{sym, ap}
use Rattle.report_port.proofs.Chain.{◌⨾◌, after}
use Rattle.run_engine.specs.Progress.{Progress}
use Rattle.run_engine.specs.States.{steps_of}
use Rattle.run_engine.proofs.ReportLemmas.{front_is}
use Rattle.run_engine.proofs.RunLemmas.{run_dates}
use Rattle.run_engine.proofs.run.Run.add_front.Goals as goal

pub add_head-requires : goal.add_head-requires
add_head-requires g c = record { dates = run_dates c.self.inside.start.project c.self.invariant.0.ready }

pub returns-clause-text : goal.returns-clause-text
returns-clause-text g c =
    let start = c.args.self.now.start in
    let same = ap (λ (p : Progress). p.start) c.self.view_is in
    rw (sym (front_is start (steps_of start))) (after ((rw same at c.add_head.ensures) ⨾ c.add_steps_heading.ensures) c.add_steps.ensures.text)
