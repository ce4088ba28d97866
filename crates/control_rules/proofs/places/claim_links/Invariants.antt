-- The places after the rules so far.
use Rattle.std.proofs.Common.{◌≡◌, ℕ, ◌<◌, length}
use Rattle.fixed_num.specs.Lists.{number}
use Rattle.control_rules.specs.Conditions.{conditions_of}
use Rattle.control_rules.specs.Places.{claimed_after, IsPlace}
use Rattle.control_rules.proofs.places.claim_links.Given as goal

abbrev pub invariant-loop-rule : goal.invariant-loop-rule
invariant-loop-rule l = record {
  each : (link : ℕ) → link < length l.initial.places → number l.places link ≡ claimed_after l.project.nodes (conditions_of l.facts) l.project.rules link l.rule;
  valid : (link : ℕ) → link < length l.initial.places → IsPlace (length l.project.rules) (number l.places link);
}
