use Rattle.inp_series.proofs.MeaningLemmas.{curve_faults_in, series_faults_in}
use Rattle.inp_series.proofs.PatternLemmas.{pattern_faults_in}
use Rattle.inp_series.proofs.laws.faults_are_of_sections.Goals as goal

pub returns : goal.returns
returns c = record { series = series_faults_in; curves = curve_faults_in; patterns = pattern_faults_in }
