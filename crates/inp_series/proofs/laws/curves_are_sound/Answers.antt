use Rattle.inp_series.proofs.MeaningLemmas.{curve_kinds_are, curves_in_range, few_curves, few_points}
use Rattle.inp_series.proofs.laws.curves_are_sound.Goals as goal

pub returns : goal.returns
returns c = record { ranges = curves_in_range; few = few_curves; points = few_points; kinds = curve_kinds_are }
