use Rattle.std.proofs.Common.{◌≡◌, ◌∙◌, [], List, ap, map}
use Rattle.std.specs.Int.{w64}
use Rattle.std.proofs.lemmas.Int.{to_z-of_z}
use Rattle.inp_lines.specs.Faults.{cut}
use Rattle.inp_lines.specs.Gather.{gather}
use Rattle.inp_lines.specs.Merge.{merged}
use Rattle.inp_lines.specs.Names.{number_in}
use Rattle.inp_series.specs.declared.curves.CurveState.{CurveState}
use Rattle.inp_series.specs.SeriesLines.{series_fault, series_names}
use Rattle.inp_reader.specs.Known.{context_in}
use Rattle.inp_reader.proofs.FaultLemmas.{tables_merged}
use Rattle.inp_reader.proofs.known.known_of.Goals as goal

pub returns-clause-known : goal.returns-clause-known
unfolding context_in
returns-clause-known c =
    let lines = c.args.lines.now in
    let series = c.in_ok-series.ensures.names ∙ ap (λ s. number_in (series_names s lines)) (to_z-of_z w64 c.args.start c.ranges.start) in
    let kinds = c.in_ok-curve_kinds.ensures ∙ ap (λ (l : List CurveState). map (λ state. state.kind) l) c.in_ok-curves.ensures.states in
    λ i. record {
      units = c.args.units;
      nodes = c.in_ok-number_nodes.ensures i;
      links = c.in_ok-number_links.ensures i;
      link_sections = c.in_ok-read_link_sections.ensures i;
      subs = c.in_ok-number_subs.ensures i;
      gages = c.in_ok-number_gages.ensures i;
      series = series i;
      patterns = c.in_ok-patterns.ensures.names i;
      curves = c.in_ok-curves.ensures.names i;
      curve_kinds = kinds i;
    }

pub returns-clause-faults : goal.returns-clause-faults
returns-clause-faults c =
    let lines = c.args.lines.now in
    let first = c.in_ok-series.series.faults in
    let second = c.merge_faults.new.faults in
    let series = c.in_ok-series.ensures.faults ∙ ap (λ s. cut (gather (series_fault s) [] lines)) (to_z-of_z w64 c.args.start c.ranges.start) in
    tables_merged c.args.start lines c.requires.rise
    first second c.merge_faults-2.new.faults series
    (c.in_ok-merge_faults.ensures ∙ ap (λ l. cut (merged first l)) c.in_ok-curves.ensures.faults)
    (c.in_ok-merge_faults-2.ensures ∙ ap (λ l. cut (merged second l)) c.in_ok-patterns.ensures.faults)
