-- A project of nothing.
use Rattle.std.specs.Prelude.{[], false, pos}
use Rattle.net_types.specs.declared.options.Damping.TheVariants.{Partial}
use Rattle.net_types.specs.declared.options.FlowUnits.TheVariants.{Cfs}
use Rattle.net_types.specs.declared.options.InfilKind.TheVariants.{ModifiedHorton}
use Rattle.net_types.specs.declared.options.Limiter.TheVariants.{Both}
use Rattle.net_types.specs.declared.options.Options.{Options}
use Rattle.net_types.specs.declared.project.Project.{Project}

-- the options of an input that sets none (User's Manual, section [OPTIONS]; this project's profile): which starts and
-- ends with the first moment of 2002-01-01
abbrev pub default_options : Options
default_options = record {
  units = Cfs;
  infil = ModifiedHorton;
  start = pos 1_009_843_200_000;
  finish = pos 1_009_843_200_000;
  report_ms = pos 900_000;
  wet_ms = pos 300_000;
  step_ms = pos 20_000;
  variable6 = pos 0;
  ponding = false;
  damping = Partial;
  limiter = Both;
  min_area = pos 1_167_420;
  tolerance = pos 1_524;
  max_trials = 8;
  threads = 1;
}

-- a project of these options and no records
abbrev pub empty_project : Project
empty_project = record {
  title = [];
  warnings = [];
  options = default_options;
  gages = [];
  subs = [];
  nodes = [];
  links = [];
  curves = [];
  series = [];
  patterns = [];
  inflows = [];
  dry = [];
  rules = [];
}
