use Rattle.inp_series.proofs.MeaningLemmas.{few_entries, few_series, series_in_range, series_numbers}
use Rattle.inp_series.proofs.laws.series_are_sound.Goals as goal

pub returns : goal.returns
returns c = record { ranges = series_in_range; few = few_series; entries = few_entries; numbers = series_numbers }
