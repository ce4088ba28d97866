-- The places so far are unclaimed.
use Rattle.std.proofs.Common.{◌≡◌, ℕ, ◌<◌}
use Rattle.fixed_num.specs.Lists.{number}
use Rattle.control_rules.specs.Places.{unclaimed}
use Rattle.control_rules.proofs.places.clear.Given as goal

abbrev pub invariant-loop-place : goal.invariant-loop-place
invariant-loop-place l = (link : ℕ) → link < l.place-index → number l.places link ≡ unclaimed
