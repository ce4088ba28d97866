use Rattle.inp_series.proofs.PatternLemmas.{few_patterns, pattern_numbers, patterns_in_range}
use Rattle.inp_series.proofs.laws.patterns_are_sound.Goals as goal

pub returns : goal.returns
returns c = record { ranges = patterns_in_range; few = few_patterns; numbers = pattern_numbers }
