-- What the lines of an input mean.
use Rattle.std.specs.Prelude.{◌≡◌, List}
use Rattle.net_types.specs.declared.project.Project.{Project}
use Rattle.inp_lines.specs.declared.line.Line.{Line}
use Rattle.inp_forms.specs.Laws.{MeanRecords}
use Rattle.inp_hydrology.specs.Gages.{gage_forms}
use Rattle.inp_inflows.specs.Counted.{MeanCounted}
use Rattle.inp_inflows.specs.Inflows.{dry_form, inflow_form}
use Rattle.inp_network.specs.Nodes.{node_forms}
use Rattle.inp_options.specs.Options.{options_of}
use Rattle.inp_options.specs.Warnings.{warnings_of}
use Rattle.inp_rules.specs.Meaning.{MeanRules}
use Rattle.inp_series.specs.Meaning.{MeanCurves, MeanPatterns, MeanSeries}
use Rattle.inp_reader.specs.Known.{known_in, method_of, start_of}
use Rattle.inp_reader.specs.Network.{MeansLinks}
use Rattle.inp_reader.specs.Surface.{MeansSubs}
use Rattle.inp_reader.specs.Title.{title_of}

-- Lines mean this project: each of its lists has the records of the lines of that kind, in the order of lines, and a
-- name stands for the object whose lines define it, wherever these are. Of equal options the last counts. Links and
-- subcatchments are what their own lines say, with what other lines say of them. Curves, time series and time patterns
-- are made of all lines of their names, and a control rule of the lines from its RULE line up to the next. Source:
-- this project's profile.
pub record Means (lines : List Line) (project : Project) : Type 0 where
  pub title_is : project.title ≡ title_of lines
  pub warnings_are : project.warnings ≡ warnings_of lines
  pub options_are : project.options ≡ options_of lines
  pub gages_are : MeanRecords (known_in lines) gage_forms lines project.gages
  pub subs_are : MeansSubs (method_of lines) (known_in lines) lines project.subs
  pub nodes_are : MeanRecords (known_in lines) node_forms lines project.nodes
  pub links_are : MeansLinks (known_in lines) lines project.links
  pub curves_are : MeanCurves lines project.curves
  pub series_are : MeanSeries (start_of lines) lines project.series
  pub patterns_are : MeanPatterns lines project.patterns
  pub inflows_are : MeanCounted (known_in lines) inflow_form lines project.inflows
  pub dry_are : MeanCounted (known_in lines) dry_form lines project.dry
  pub rules_are : MeanRules (known_in lines) lines project.rules
