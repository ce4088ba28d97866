-- All sections that follow the step lines of the report of a run, in their order (this project's profile).
use Rattle.std.specs.Prelude.{◌<◌, ◌^◌, ℕ, List, ◌++◌, length}
use Rattle.std.specs.List.{All}
use Rattle.net_types.specs.declared.project.Project.{Project}
use Rattle.runoff.specs.RunoffStep.{HasVolumesWithin}
use Rattle.summaries.specs.declared.outfall_summary.OutfallSummary.{OutfallSummary}
use Rattle.report_writer.specs.declared.whole_tail.RunFigures.{RunFigures}
use Rattle.report_writer.specs.LoadSections.{flood_section, outfall_section, runoff_section, sub_section}
use Rattle.report_writer.specs.ReportSections.{continuity_section, steps_section}
use Rattle.report_writer.specs.SummarySections.{link_section, node_section}

-- the sections from one on, the last first
abbrev pub from_runoff : RunFigures → List ℕ
from_runoff figures = runoff_section figures.runoff.now ++ steps_section figures.counts.now

abbrev pub from_subs : Project → RunFigures → List ℕ
from_subs project figures =
    sub_section project.options.units project.subs figures.subs.now ++ from_runoff figures

abbrev pub from_links : Project → RunFigures → List ℕ
from_links project figures =
    link_section project.options.units project.links figures.links.now ++ from_subs project figures

abbrev pub from_outfalls : Project → RunFigures → List ℕ
from_outfalls project figures =
    outfall_section project.options.units project.nodes figures.outfalls.now ++ from_links project figures

abbrev pub from_floods : Project → RunFigures → List ℕ
from_floods project figures = flood_section project.nodes figures.nodes.now ++ from_outfalls project figures

abbrev pub from_nodes : Project → RunFigures → List ℕ
from_nodes project figures =
    node_section project.options.units project.nodes figures.nodes.now ++ from_floods project figures

-- all of them
unfoldable pub whole_tail_of : Project → RunFigures → List ℕ
whole_tail_of project figures = continuity_section figures.total.now ++ from_nodes project figures

-- each outfall is a node of the project, and the volumes of runoff are within 10^37 mm³
pub record FiguresFit (project : Project) (figures : RunFigures) : Type 0 where
  pub outfall_nodes : All (λ (outfall : OutfallSummary). outfall.node < length project.nodes) figures.outfalls.now
  pub runoff_volumes : HasVolumesWithin (10 ^ 37) figures.runoff.now
