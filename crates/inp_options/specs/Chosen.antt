-- Of each option, what the last line without a fault sets (User's Manual, section [OPTIONS]).
use Rattle.std.specs.Prelude.{ℕ, ℤ, Bool, List, [], ◌∷◌, flat_map, None}
use Rattle.std.specs.List.{last_or}
use Rattle.net_types.specs.declared.options.FlowUnits.{FlowUnits}
use Rattle.net_types.specs.declared.options.InfilKind.{InfilKind}
use Rattle.net_types.specs.declared.options.Damping.{Damping}
use Rattle.net_types.specs.declared.options.Limiter.{Limiter}
use Rattle.inp_lines.specs.declared.line.Line.{Line}
use Rattle.inp_lines.specs.Gather.{records_in}
use Rattle.inp_options.specs.declared.setting.Setting.{Setting}
use Rattle.inp_options.specs.declared.setting.Setting.TheVariants as setting
use Rattle.inp_options.specs.declared.chosen.Latest.{Latest}
use Rattle.inp_options.specs.OptionLines.{reading_of}

-- what a setting sets of each option, as a list of none or one
abbrev pub units_in : Setting → List FlowUnits
units_in (setting.Units value) = value ∷ []
units_in _ = []

abbrev pub infil_in : Setting → List InfilKind
infil_in (setting.Infiltration value) = value ∷ []
infil_in _ = []

abbrev pub start_date_in : Setting → List ℤ
start_date_in (setting.StartDate value) = value ∷ []
start_date_in _ = []

abbrev pub start_time_in : Setting → List ℤ
start_time_in (setting.StartTime value) = value ∷ []
start_time_in _ = []

abbrev pub end_date_in : Setting → List ℤ
end_date_in (setting.EndDate value) = value ∷ []
end_date_in _ = []

abbrev pub end_time_in : Setting → List ℤ
end_time_in (setting.EndTime value) = value ∷ []
end_time_in _ = []

abbrev pub report_ms_in : Setting → List ℤ
report_ms_in (setting.ReportStep value) = value ∷ []
report_ms_in _ = []

abbrev pub wet_ms_in : Setting → List ℤ
wet_ms_in (setting.WetStep value) = value ∷ []
wet_ms_in _ = []

abbrev pub step_ms_in : Setting → List ℤ
step_ms_in (setting.RoutingStep value) = value ∷ []
step_ms_in _ = []

abbrev pub variable6_in : Setting → List ℤ
variable6_in (setting.VariableStep value) = value ∷ []
variable6_in _ = []

abbrev pub ponding_in : Setting → List Bool
ponding_in (setting.Ponding value) = value ∷ []
ponding_in _ = []

abbrev pub damping_in : Setting → List Damping
damping_in (setting.Inertia value) = value ∷ []
damping_in _ = []

abbrev pub limiter_in : Setting → List Limiter
limiter_in (setting.NormalFlow value) = value ∷ []
limiter_in _ = []

abbrev pub min_area_in : Setting → List ℤ
min_area_in (setting.MinArea value) = value ∷ []
min_area_in _ = []

abbrev pub tolerance_in : Setting → List ℤ
tolerance_in (setting.Tolerance value) = value ∷ []
tolerance_in _ = []

abbrev pub max_trials_in : Setting → List ℕ
max_trials_in (setting.MaxTrials value) = value ∷ []
max_trials_in _ = []

abbrev pub threads_in : Setting → List ℕ
threads_in (setting.Threads value) = value ∷ []
threads_in _ = []

abbrev pub extran_in : Setting → List Bool
extran_in (setting.Extran value) = value ∷ []
extran_in _ = []

-- what settings set, the last counting, after what was set before
unfoldable pub latest_after : Latest → List Setting → Latest
latest_after latest given = record {
  units = last_or latest.units (flat_map units_in given);
  infil = last_or latest.infil (flat_map infil_in given);
  start_date = last_or latest.start_date (flat_map start_date_in given);
  start_time = last_or latest.start_time (flat_map start_time_in given);
  end_date = last_or latest.end_date (flat_map end_date_in given);
  end_time = last_or latest.end_time (flat_map end_time_in given);
  report_ms = last_or latest.report_ms (flat_map report_ms_in given);
  wet_ms = last_or latest.wet_ms (flat_map wet_ms_in given);
  step_ms = last_or latest.step_ms (flat_map step_ms_in given);
  variable6 = last_or latest.variable6 (flat_map variable6_in given);
  ponding = last_or latest.ponding (flat_map ponding_in given);
  damping = last_or latest.damping (flat_map damping_in given);
  limiter = last_or latest.limiter (flat_map limiter_in given);
  min_area = last_or latest.min_area (flat_map min_area_in given);
  tolerance = last_or latest.tolerance (flat_map tolerance_in given);
  max_trials = last_or latest.max_trials (flat_map max_trials_in given);
  threads = last_or latest.threads (flat_map threads_in given);
  extran = last_or latest.extran (flat_map extran_in given);
}

-- nothing is set
abbrev pub nothing : Latest
nothing = record {
  units = None;
  infil = None;
  start_date = None;
  start_time = None;
  end_date = None;
  end_time = None;
  report_ms = None;
  wet_ms = None;
  step_ms = None;
  variable6 = None;
  ponding = None;
  damping = None;
  limiter = None;
  min_area = None;
  tolerance = None;
  max_trials = None;
  threads = None;
  extran = None;
}

-- what settings set, the last of each option counting
abbrev pub latest_of : List Setting → Latest
latest_of given = latest_after nothing given

-- what the lines without a fault set that are read under these flow units
unfoldable pub settings : FlowUnits → List Line → List Setting
settings units lines = flat_map (λ line. records_in (reading_of units line)) lines
