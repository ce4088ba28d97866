use Rattle.std.proofs.Common.{rules, ◌∙◌, ◌+◌, sym, FitsSigned, w64}
use Rattle.std.proofs.lemmas.Int.{to_z-of_z}
use Rattle.report_port.proofs.Chain.{no_more}
use Rattle.run_engine.proofs.LineLemmas.{from_line, from_same, line_put, line_reached, no_line}
use Rattle.run_engine.proofs.one_step.step_and_line.Goals as goal

pub reaches_report-requires : goal.reaches_report-requires
reaches_report-requires g c = c.requires.kept.ready.sound.options.report_in

-- no line
pub returns-then-not-reaches_report-clause-since : goal.returns-then-not-reaches_report-clause-since
returns-then-not-reaches_report-clause-since g c =
    let start = c.args.start.now in
    let before : FitsSigned w64 c.args.kept.now.moment = search rules in
    let after : FitsSigned w64 c.one_step.new.kept.moment = search rules in
    let tested = simp (to_z-of_z, before, after) at c.reaches_report.ensures in
    let now = rw c.one_step.ensures.steps at c.one_step.ensures.kept.clock.same in
    let line = line_reached start c.args.kept.now.counts.steps c.requires.kept.clock.same now tested ∙ c.if-not-reaches_report.true in
    let k = c.args.kept.now.counts.steps + 1 in
    let at = rw c.one_step.ensures.steps at c.one_step.ensures.since in
    rw c.one_step.ensures.steps (from_same start k c.one_step.new.since line at)

pub returns-then-not-reaches_report-clause-text : goal.returns-then-not-reaches_report-clause-text
returns-then-not-reaches_report-clause-text g c =
    let start = c.args.start.now in
    let before : FitsSigned w64 c.args.kept.now.moment = search rules in
    let after : FitsSigned w64 c.one_step.new.kept.moment = search rules in
    let tested = simp (to_z-of_z, before, after) at c.reaches_report.ensures in
    let now = rw c.one_step.ensures.steps at c.one_step.ensures.kept.clock.same in
    let line = line_reached start c.args.kept.now.counts.steps c.requires.kept.clock.same now tested ∙ c.if-not-reaches_report.true in
    rw (no_line start (c.args.kept.now.counts.steps + 1) line) no_more

-- a line
pub returns-clause-since : goal.returns-clause-since
returns-clause-since g c =
    let start = c.args.start.now in
    let before : FitsSigned w64 c.args.kept.now.moment = search rules in
    let after : FitsSigned w64 c.one_step.new.kept.moment = search rules in
    let tested = simp (to_z-of_z, before, after) at c.reaches_report.ensures in
    let now = rw c.one_step.ensures.steps at c.one_step.ensures.kept.clock.same in
    let line = line_reached start c.args.kept.now.counts.steps c.requires.kept.clock.same now tested ∙ c.if-not-reaches_report.false in
    let k = c.args.kept.now.counts.steps + 1 in
    rw c.one_step.ensures.steps (from_line start k _ line c.clear.ensures.value)

pub returns-clause-text : goal.returns-clause-text
returns-clause-text g c =
    let start = c.args.start.now in
    let before : FitsSigned w64 c.args.kept.now.moment = search rules in
    let after : FitsSigned w64 c.one_step.new.kept.moment = search rules in
    let tested = simp (to_z-of_z, before, after) at c.reaches_report.ensures in
    let now = rw c.one_step.ensures.steps at c.one_step.ensures.kept.clock.same in
    let line = line_reached start c.args.kept.now.counts.steps c.requires.kept.clock.same now tested ∙ c.if-not-reaches_report.false in
    let k = c.args.kept.now.counts.steps + 1 in
    let at = rw c.one_step.ensures.steps at c.one_step.ensures.since in
    let put = simp c.total-account.ensures.value at c.add_step_line.ensures in
    rw (sym (line_put start k c.one_step.new.since c.one_step.new.kept.moment line at now)) put
