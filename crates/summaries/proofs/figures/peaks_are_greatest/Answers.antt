use Rattle.summaries.proofs.PeakLemmas.{peak_is}
use Rattle.summaries.proofs.figures.peaks_are_greatest.Goals as goal

pub returns : goal.returns
returns c = peak_is
