-- Each turn adds the line of one state more.
use Rattle.std.proofs.Common.{◌∙◌, ℕ, subst, ap, arith, sym}
use Rattle.report_port.proofs.Chain.{◌⨾◌, does_not_stop}
use Rattle.report_port.specs.Adding.{Adds}
use Rattle.run_engine.specs.States.{steps_of}
use Rattle.run_engine.specs.StepLines.{last_line, lines_until}
use Rattle.run_engine.proofs.ReportLemmas.{steps_at}
use Rattle.run_engine.proofs.StepsLemmas.{added_next, added_none, stops_at}
use Rattle.run_engine.proofs.run.Run.add_steps.Goals as goal

pub loop-self-init : goal.loop-self-init
loop-self-init g c = added_none c.args.self.now.start c.args.self.now.counts.steps (steps_at c.args.self.now 0 c.requires)

pub loop-self-preserved : goal.loop-self-preserved
loop-self-preserved g c = added_next c.loop-self.invariant c.add_step.ensures.start c.add_step.ensures.steps c.add_step.ensures.text

pub returns-then-has_failed-clause-text : goal.returns-then-has_failed-clause-text
returns-then-has_failed-clause-text g c =
    let within = c.add_step.ensures.at.within in
    let all = ap steps_of (c.add_step.ensures.start ∙ c.loop-self.invariant.same) in
    let start = c.args.self.now.start in
    stops_at (steps_of start) (last_line start (steps_of start))
    (added_next c.loop-self.invariant c.add_step.ensures.start c.add_step.ensures.steps c.add_step.ensures.text) (omega (arith, within, all))
    (sym c.has_failed.ensures ∙ c.if-has_failed.true)

pub returns-clause-text : goal.returns-clause-text
returns-clause-text g c =
    let last = c.goes_on.ensures.last c.loop-self-test.false in
    let lines = subst (λ (n : ℕ). Adds c.args.report.now c.loop-self.report (lines_until c.args.self.now.start n))
    (last ∙ ap steps_of c.loop-self.invariant.same) c.loop-self.invariant.lines in
    does_not_stop (lines ⨾ (rw c.loop-self.invariant.same at c.add_last.ensures))
