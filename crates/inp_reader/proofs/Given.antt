-- The project that lines give.
use Rattle.std.specs.Prelude.{List}
use Rattle.net_types.specs.declared.project.Project.{Project}
use Rattle.inp_lines.specs.declared.line.Line.{Line}
use Rattle.inp_hydrology.specs.Gages.{gages_of}
use Rattle.inp_inflows.specs.Counted.{counted_of}
use Rattle.inp_inflows.specs.Inflows.{dry_form, inflow_form}
use Rattle.inp_network.specs.Nodes.{nodes_of}
use Rattle.inp_options.specs.Options.{options_of}
use Rattle.inp_options.specs.Warnings.{warnings_of}
use Rattle.inp_rules.specs.Rules.{rules_of}
use Rattle.inp_series.specs.CurveLines.{curves_of}
use Rattle.inp_series.specs.PatternLines.{patterns_of}
use Rattle.inp_series.specs.SeriesLines.{series_of}
use Rattle.inp_reader.specs.Known.{known_in, method_of, start_of}
use Rattle.inp_reader.specs.Network.{full_links}
use Rattle.inp_reader.specs.Surface.{full_subs}
use Rattle.inp_reader.specs.Title.{title_of}

unfoldable pub given_project : List Line → Project
given_project lines = record {
  title = title_of lines;
  warnings = warnings_of lines;
  options = options_of lines;
  gages = gages_of (known_in lines) lines;
  subs = full_subs (method_of lines) (known_in lines) lines;
  nodes = nodes_of (known_in lines) lines;
  links = full_links (known_in lines) lines;
  curves = curves_of lines;
  series = series_of (start_of lines) lines;
  patterns = patterns_of lines;
  inflows = counted_of (known_in lines) inflow_form lines;
  dry = counted_of (known_in lines) dry_form lines;
  rules = rules_of (known_in lines) lines;
}
