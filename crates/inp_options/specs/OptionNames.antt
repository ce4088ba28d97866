-- The names of options (User's Manual, section [OPTIONS]).
use Rattle.std.specs.Prelude.{ℕ, List, [], ◌∷◌, Option, codes}
use Rattle.inp_options.specs.declared.names.OptionKind.{OptionKind}
use Rattle.inp_options.specs.declared.names.OptionKind.TheVariants as option
use Rattle.inp_options.specs.Keywords.{choice_of}

-- the options by their names: those with values of their own, those that are built for 0 or for NO alone, and those
-- that have no effect
abbrev pub known_options : List (List ℕ × OptionKind)
known_options =
    (codes "FLOW_UNITS", option.FlowUnits) ∷
    (codes "INFILTRATION", option.Infiltration) ∷
    (codes "FLOW_ROUTING", option.FlowRouting) ∷
    (codes "START_DATE", option.StartDate) ∷
    (codes "START_TIME", option.StartTime) ∷
    (codes "END_DATE", option.EndDate) ∷
    (codes "END_TIME", option.EndTime) ∷
    (codes "REPORT_STEP", option.ReportStep) ∷
    (codes "WET_STEP", option.WetStep) ∷
    (codes "ROUTING_STEP", option.RoutingStep) ∷
    (codes "ALLOW_PONDING", option.AllowPonding) ∷
    (codes "INERTIAL_DAMPING", option.InertialDamping) ∷
    (codes "NORMAL_FLOW_LIMITED", option.NormalFlowLimited) ∷
    (codes "MIN_SURFAREA", option.MinSurfArea) ∷
    (codes "HEAD_TOLERANCE", option.HeadTolerance) ∷
    (codes "MAX_TRIALS", option.MaxTrials) ∷
    (codes "THREADS", option.Threads) ∷
    (codes "VARIABLE_STEP", option.VariableStep) ∷
    (codes "LENGTHENING_STEP", option.Zero) ∷
    (codes "MIN_SLOPE", option.Zero) ∷
    (codes "SKIP_STEADY_STATE", option.No) ∷
    (codes "IGNORE_RAINFALL", option.No) ∷
    (codes "IGNORE_ROUTING", option.No) ∷
    (codes "LINK_OFFSETS", option.LinkOffsets) ∷
    (codes "RULE_STEP", option.RuleStep) ∷
    (codes "SURCHARGE_METHOD", option.SurchargeMethod) ∷
    (codes "REPORT_START_DATE", option.Unused) ∷
    (codes "REPORT_START_TIME", option.Unused) ∷
    (codes "SWEEP_START", option.Unused) ∷
    (codes "SWEEP_END", option.Unused) ∷
    (codes "DRY_DAYS", option.Unused) ∷
    (codes "DRY_STEP", option.Unused) ∷
    (codes "FORCE_MAIN_EQUATION", option.Unused) ∷
    (codes "SYS_FLOW_TOL", option.Unused) ∷
    (codes "LAT_FLOW_TOL", option.Unused) ∷
    (codes "MINIMUM_STEP", option.Unused) ∷
    (codes "TEMPDIR", option.Unused) ∷
    (codes "IGNORE_SNOWMELT", option.Unused) ∷
    (codes "IGNORE_GROUNDWATER", option.Unused) ∷
    (codes "IGNORE_RDII", option.Unused) ∷
    (codes "IGNORE_QUALITY", option.Unused) ∷
    []

-- the option of a name, ASCII case ignored
unfoldable pub option_named : List ℕ → Option OptionKind
option_named name = choice_of known_options name
