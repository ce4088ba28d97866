use Rattle.rising_pairs.specs.FirstAbove.{first_above}
use Rattle.rising_pairs.proofs.SearchLemmas.{first_above-parts}
use Rattle.rising_pairs.proofs.ReadingLemmas.{reading_unique}
use Rattle.rising_pairs.proofs.readings.reading_is_unique.Goals as goal

pub returns : goal.returns
returns c = λ pairs key below beyond v w some rising a b.
    reading_unique pairs key below beyond v w some rising (first_above pairs key) (first_above-parts pairs key rising)
    a b
