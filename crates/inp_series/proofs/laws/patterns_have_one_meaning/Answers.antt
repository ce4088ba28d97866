use Rattle.inp_series.proofs.PatternLemmas.{patterns_mean, patterns_one}
use Rattle.inp_series.proofs.laws.patterns_have_one_meaning.Goals as goal

pub returns : goal.returns
returns c = record { meant = patterns_mean; one = patterns_one }
