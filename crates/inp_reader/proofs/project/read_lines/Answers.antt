use Rattle.std.proofs.Common.{◌≡◌, ◌∙◌, ◌++◌, [], ap, subst, sym, FitsSigned, arith}
use Rattle.std.specs.Int.{w64}
use Rattle.std.proofs.lemmas.Int.{ints, to_z-of_z}
use Rattle.fixed_num.specs.Ranges.{IsMoment}
use Rattle.inp_lines.specs.Faults.{cut}
use Rattle.inp_lines.specs.Gather.{gather}
use Rattle.inp_forms.specs.Context.{context_of}
use Rattle.inp_rules.specs.Rules.{rules_of}
use Rattle.inp_series.specs.SeriesLines.{series_of}
use Rattle.inp_reader.specs.Known.{context_in}
use Rattle.inp_reader.specs.Meaning.{Means}
use Rattle.inp_reader.specs.Tables.{table_fault}
use Rattle.inp_reader.proofs.MeaningLemmas.{given_means}
use Rattle.inp_reader.proofs.ReadLemmas.{faults_are, project_is}
use Rattle.inp_reader.proofs.SoundLemmas.{project_sound}
use Rattle.inp_reader.proofs.project.read_lines.Goals as goal

pub returns-clause-faults : goal.returns-clause-faults
returns-clause-faults c =
    let lines = c.args.lines.now in
    let options = c.in_ok-options.options in
    let moment : IsMoment options.start = c.in_ok-options.ensures.range.start_in in
    let fits : FitsSigned w64 options.start = omega (arith, ints, moment.from, moment.to) in
    let known = c.in_ok-known.ensures.known ∙ ap (λ s. context_in options.units s lines) (to_z-of_z w64 options.start fits) in
    let tables = c.in_ok-known.ensures.faults ∙ ap (λ s. cut (gather (table_fault s) [] lines)) (to_z-of_z w64 options.start fits) in
    faults_are lines options c.in_ok-known.known c.in_ok-options.ensures.options known
    c.requires.rise c.args.faults.now
    c.read_options.new.faults c.in_ok-network.network.faults c.merge_faults.new.faults c.in_ok-surface.surface.faults c.merge_faults-2.new.faults
    c.in_ok-known.tables.faults c.merge_faults-3.new.faults c.in_ok-flows.flows.faults c.merge_faults-4.new.faults
    c.in_ok-of_rules.of_rules c.merge_faults-5.new.faults c.read_others.new.faults
    c.requires.none c.in_ok-options.ensures.faults c.in_ok-network.ensures.faults c.in_ok-merge_faults.ensures c.in_ok-surface.ensures.faults c.in_ok-merge_faults-2.ensures
    tables c.in_ok-merge_faults-3.ensures c.in_ok-flows.ensures.faults c.in_ok-merge_faults-4.ensures
    c.in_ok-of_rules.ensures.faults c.in_ok-merge_faults-5.ensures c.in_ok-read_others.ensures

pub returns-clause-project : goal.returns-clause-project
returns-clause-project c none =
    let lines = c.args.lines.now in
    let options = c.in_ok-options.options in
    let moment : IsMoment options.start = c.in_ok-options.ensures.range.start_in in
    let fits : FitsSigned w64 options.start = omega (arith, ints, moment.from, moment.to) in
    let known = c.in_ok-known.ensures.known ∙ ap (λ s. context_in options.units s lines) (to_z-of_z w64 options.start fits) in
    let series = c.in_ok-known.ensures.series ∙ ap (λ s. series_of s lines) (to_z-of_z w64 options.start fits) in
    let rules = c.in_ok-of_rules.ensures.rules ∙ ap (λ l. l ++ rules_of (context_of c.in_ok-known.known) lines) c.new-rules.ensures in
    subst (Means lines) (sym (project_is lines options c.in_ok-known.known c.in_ok-options.ensures.options known
    c.in_ok-title.title c.in_ok-options.warnings c.in_ok-surface.surface.gages c.in_ok-surface.surface.subs c.in_ok-network.network.nodes c.in_ok-network.network.links
    c.in_ok-known.tables.curves c.in_ok-known.tables.series c.in_ok-known.tables.patterns c.in_ok-flows.flows.inflows c.in_ok-flows.flows.dry c.read_rules.new.rules
    c.in_ok-title.ensures c.in_ok-options.ensures.warnings
    c.in_ok-surface.ensures.gages c.in_ok-surface.ensures.subs c.in_ok-network.ensures.nodes c.in_ok-network.ensures.links
    c.in_ok-known.ensures.curves series c.in_ok-known.ensures.patterns c.in_ok-flows.ensures.inflows c.in_ok-flows.ensures.dry rules))
    (given_means lines none)

pub returns-clause-sound : goal.returns-clause-sound
returns-clause-sound c none = project_sound c.args.lines.now _ none c.in_ok-options.ensures.range (returns-clause-project c none)
