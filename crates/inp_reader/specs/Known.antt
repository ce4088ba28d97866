-- What all lines of an input say of names.
use Rattle.std.specs.Prelude.{ℤ, List, map}
use Rattle.net_types.specs.declared.options.FlowUnits.{FlowUnits}
use Rattle.net_types.specs.declared.options.InfilKind.{InfilKind}
use Rattle.inp_lines.specs.declared.line.Line.{Line}
use Rattle.inp_lines.specs.Names.{number_in}
use Rattle.inp_forms.specs.Context.{Context}
use Rattle.inp_hydrology.specs.Gages.{gage_names}
use Rattle.inp_hydrology.specs.Subcatchments.{sub_names}
use Rattle.inp_network.specs.Links.{link_names, link_sections}
use Rattle.inp_network.specs.Nodes.{node_names}
use Rattle.inp_options.specs.Options.{units_of, options_of}
use Rattle.inp_series.specs.CurveLines.{curve_names, curve_states}
use Rattle.inp_series.specs.PatternLines.{pattern_names}
use Rattle.inp_series.specs.SeriesLines.{series_names}

-- A name stands for the object whose lines define it, wherever these are. Times of series count from the start of the
-- run, in ms from 1970-01-01. Source: this project's profile.
unfoldable pub context_in : FlowUnits → ℤ → List Line → Context
context_in units start lines = record {
  units = units;
  nodes = number_in (node_names lines);
  links = number_in (link_names lines);
  link_sections = link_sections lines;
  subs = number_in (sub_names lines);
  gages = number_in (gage_names lines);
  series = number_in (series_names start lines);
  patterns = number_in (pattern_names lines);
  curves = number_in (curve_names lines);
  curve_kinds = map (λ state. state.kind) (curve_states lines);
}

-- the start of the run by the lines' options
abbrev pub start_of : List Line → ℤ
start_of lines = (options_of lines).start

-- the same by the units and the start of the lines' options
abbrev pub known_in : List Line → Context
known_in lines = context_in (units_of lines) (start_of lines) lines

-- the method of infiltration of the lines' options
abbrev pub method_of : List Line → InfilKind
method_of lines = (options_of lines).infil
