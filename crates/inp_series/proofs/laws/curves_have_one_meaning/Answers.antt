use Rattle.inp_series.proofs.MeaningLemmas.{curves_mean, curves_one}
use Rattle.inp_series.proofs.laws.curves_have_one_meaning.Goals as goal

pub returns : goal.returns
returns c = record { meant = curves_mean; one = curves_one }
