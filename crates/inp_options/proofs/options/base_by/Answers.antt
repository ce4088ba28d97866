use Rattle.std.proofs.Common.{pos, rules, refl}
use Rattle.inp_options.proofs.RangeLemmas.{kept, kept_even, numeral_in}
use Rattle.inp_options.proofs.options.base_by.Goals as goal

pub returns-clause-range : goal.returns-clause-range
returns-clause-range c = let set = c.requires in record {
  start_in = kept c.moment.result (search rules) c.moment.ensures.range;
  start_even = kept_even c.moment.result (search rules) (c.moment.ensures.even (kept_even c.within_or.result (search rules) (c.within_or.ensures.even set.start_time_even refl)));
  finish_in = kept c.moment-2.result (search rules) c.moment-2.ensures.range;
  finish_even = kept_even c.moment-2.result (search rules) (c.moment-2.ensures.even (kept_even c.within_or-3.result (search rules) (c.within_or-3.ensures.even set.end_time_even refl)));
  report_in = kept c.within_or-4.result (search rules) (c.within_or-4.ensures.range (pos 1_000) (pos 86_400_000) set.report_ms_in (numeral_in tt tt));
  wet_in = kept c.within_or-5.result (search rules) (c.within_or-5.ensures.range (pos 1_000) (pos 3_600_000) set.wet_ms_in (numeral_in tt tt));
  step_in = kept c.within_or-6.result (search rules) (c.within_or-6.ensures.range (pos 10) (pos 3_600_000) set.step_ms_in (numeral_in tt tt));
  step_even = kept_even c.within_or-6.result (search rules) (c.within_or-6.ensures.even set.step_ms_even refl);
  area_in = kept c.within_or-7.result (search rules) (c.within_or-7.ensures.range (pos 10_000) (pos 10_000_000_000_000) set.min_area_in (numeral_in tt tt));
  tolerance_in = kept c.within_or-8.result (search rules) (c.within_or-8.ensures.range (pos 1) (pos 1_000_000_000) set.tolerance_in (numeral_in tt tt));
  some_trials = c.trials_or.ensures.range.from;
  few_trials = c.trials_or.ensures.range.to;
  variable_in = numeral_in tt tt;
}
