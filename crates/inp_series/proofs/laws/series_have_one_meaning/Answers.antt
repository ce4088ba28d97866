use Rattle.inp_series.proofs.MeaningLemmas.{series_mean, series_one}
use Rattle.inp_series.proofs.laws.series_have_one_meaning.Goals as goal

pub returns : goal.returns
returns c = record { meant = series_mean; one = series_one }
