use Rattle.std.proofs.Common.{pos, rules}
use Rattle.inp_options.proofs.RangeLemmas.{kept, numeral_in}
use Rattle.inp_options.proofs.options.options_by.Goals as goal

pub returns-clause-range : goal.returns-clause-range
returns-clause-range c = let set = c.requires in let base = c.base_by-options.ensures.range in record {
  start_in = base.start_in;
  start_even = base.start_even;
  finish_in = base.finish_in;
  finish_even = base.finish_even;
  report_in = base.report_in;
  wet_in = base.wet_in;
  step_in = base.step_in;
  step_even = base.step_even;
  area_in = base.area_in;
  tolerance_in = base.tolerance_in;
  some_trials = base.some_trials;
  few_trials = base.few_trials;
  variable_in = kept c.within_or.result (search rules) (c.within_or.ensures.range (pos 0) (pos 2_000_000) set.variable6_in (numeral_in tt tt));
}
