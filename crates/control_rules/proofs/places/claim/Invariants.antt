-- The places after the actions so far.
use Rattle.std.proofs.Common.{◌≡◌, ℕ, ◌<◌, length, take}
use Rattle.fixed_num.specs.Lists.{number}
use Rattle.control_rules.specs.Places.{claimed, IsPlace}
use Rattle.control_rules.proofs.places.claim.Given as goal

abbrev pub invariant-loop-action : goal.invariant-loop-action
invariant-loop-action l = record {
  each : (link : ℕ) → link < length l.initial.places → number l.places link ≡ claimed l.rules l.list (take l.action-index l.action-items) link (number l.initial.places link);
  valid : (link : ℕ) → link < length l.initial.places → IsPlace (length l.rules) (number l.places link);
}
