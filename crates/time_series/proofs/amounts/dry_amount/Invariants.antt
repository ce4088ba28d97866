use Rattle.time_series.proofs.AmountLemmas.{Changed}
use Rattle.time_series.proofs.amounts.dry_amount.Given as goal

abbrev pub invariant-loop-number : goal.invariant-loop-number
invariant-loop-number l = Changed l.patterns l.at l.beside l.dry.base6 l.numbers l.amount l.number-index
