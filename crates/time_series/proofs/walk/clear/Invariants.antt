use Rattle.std.proofs.Common.{◌≡◌, ℕ, ◌<◌, pos}
use Rattle.fixed_num.specs.Lists.{number}
use Rattle.time_series.proofs.walk.clear.Given as goal

abbrev pub invariant-loop-flow : goal.invariant-loop-flow
invariant-loop-flow l = (n : ℕ) → n < l.flow-index → number l.flows n ≡ pos 0
