-- The ranges of what the last lines set.
use Rattle.std.specs.Prelude.{IfSome}
use Rattle.inp_options.specs.declared.chosen.Latest.{Latest}
use Rattle.fixed_num.specs.Ranges.{IsEven}
use Rattle.inp_options.specs.Ranges.{IsDay, IsTime, IsReportStep, IsWetStep, IsRoutingStep}
use Rattle.inp_options.specs.Ranges.{IsVariableStep, IsMinArea, IsTolerance, IsTrials}

-- each value that is set lies in its range; times of the day and the routing step are even numbers of ms
pub record AreLatest (latest : Latest) : Type 0 where
  pub start_date_in : IfSome latest.start_date IsDay
  pub start_time_in : IfSome latest.start_time IsTime
  pub start_time_even : IfSome latest.start_time IsEven
  pub end_date_in : IfSome latest.end_date IsDay
  pub end_time_in : IfSome latest.end_time IsTime
  pub end_time_even : IfSome latest.end_time IsEven
  pub report_ms_in : IfSome latest.report_ms IsReportStep
  pub wet_ms_in : IfSome latest.wet_ms IsWetStep
  pub step_ms_in : IfSome latest.step_ms IsRoutingStep
  pub step_ms_even : IfSome latest.step_ms IsEven
  pub variable6_in : IfSome latest.variable6 IsVariableStep
  pub min_area_in : IfSome latest.min_area IsMinArea
  pub tolerance_in : IfSome latest.tolerance IsTolerance
  pub max_trials_in : IfSome latest.max_trials IsTrials
