-- The options of a run (User's Manual, section [OPTIONS]).
use Rattle.std.specs.Prelude.{ℤ, pos, false, List, unwrap_or}
use Rattle.net_types.specs.declared.options.FlowUnits.{FlowUnits}
use Rattle.net_types.specs.declared.options.FlowUnits.TheVariants.{Cfs}
use Rattle.net_types.specs.declared.options.InfilKind.{InfilKind}
use Rattle.net_types.specs.declared.options.InfilKind.TheVariants.{ModifiedHorton}
use Rattle.net_types.specs.declared.options.Damping.TheVariants.{Partial}
use Rattle.net_types.specs.declared.options.Limiter.TheVariants.{Both}
use Rattle.net_types.specs.declared.options.Options.{Options}
use Rattle.inp_lines.specs.declared.line.Line.{Line}
use Rattle.inp_options.specs.declared.chosen.Latest.{Latest}
use Rattle.inp_options.specs.Chosen.{latest_of, settings}
use Rattle.inp_options.specs.Values.{moment_of}

-- the day from which a run starts by default, 1 January 2002
abbrev pub default_day : ℤ
default_day = pos 11_688

-- start and end: the end's date is by default the start's, and both begin with the day
abbrev pub start_by : Latest → ℤ
start_by latest = moment_of (unwrap_or latest.start_date default_day) (unwrap_or latest.start_time (pos 0))

abbrev pub finish_by : Latest → ℤ
finish_by latest =
    moment_of (unwrap_or latest.end_date (unwrap_or latest.start_date default_day)) (unwrap_or latest.end_time (pos 0))

-- the options by what is set, with the default of each; but for ponding and variable steps
unfoldable pub base_by : FlowUnits → Latest → Options
base_by units latest = record {
  units = units;
  infil = unwrap_or latest.infil ModifiedHorton;
  start = start_by latest;
  finish = finish_by latest;
  report_ms = unwrap_or latest.report_ms (pos 900_000);
  wet_ms = unwrap_or latest.wet_ms (pos 300_000);
  step_ms = unwrap_or latest.step_ms (pos 20_000);
  variable6 = pos 0;
  ponding = false;
  damping = unwrap_or latest.damping Partial;
  limiter = unwrap_or latest.limiter Both;
  min_area = unwrap_or latest.min_area (pos 1_167_420);
  tolerance = unwrap_or latest.tolerance (pos 1_524);
  max_trials = unwrap_or latest.max_trials 8;
  threads = unwrap_or latest.threads 1;
}

-- with these two as well
unfoldable pub options_by : FlowUnits → Latest → Options
options_by units latest = record (base_by units latest) {
  variable6 = unwrap_or latest.variable6 (pos 0);
  ponding = unwrap_or latest.ponding false;
}

-- the flow units under which the whole file is read: the last FLOW_UNITS without a fault, else CFS
-- (what a line sets as flow units is the same under all of them)
unfoldable pub units_of : List Line → FlowUnits
units_of lines = unwrap_or (latest_of (settings Cfs lines)).units Cfs

-- what the last lines of a file set
unfoldable pub latest_in : List Line → Latest
latest_in lines = latest_of (settings (units_of lines) lines)

-- the start of the run, in ms from 1970-01-01 00:00:00, and its infiltration method: what other sections need
unfoldable pub start_of : List Line → ℤ
start_of lines = start_by (latest_in lines)

unfoldable pub infiltration_of : List Line → InfilKind
infiltration_of lines = unwrap_or (latest_in lines).infil ModifiedHorton

-- the options of a file
unfoldable pub options_of : List Line → Options
options_of lines = options_by (units_of lines) (latest_in lines)
