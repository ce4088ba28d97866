-- The places so far have what they are to have, and the others what they had.
use Rattle.std.proofs.Common.{◌≡◌, ℕ, ◌<◌, ◌≤◌, if◌then◌else◌}
use Rattle.std.specs.Ordering.{int_eq}
use Rattle.fixed_num.specs.Lists.{number}
use Rattle.control_rules.specs.Places.{unclaimed}
use Rattle.control_rules.proofs.places.restore.Given as goal

abbrev pub invariant-loop-link : goal.invariant-loop-link
invariant-loop-link l = record {
  done : (link : ℕ) → link < l.link → number l.places link ≡ (if int_eq (number l.initial.places link) unclaimed then number l.settings link else number l.initial.places link);
  left : (link : ℕ) → l.link ≤ link → number l.places link ≡ number l.initial.places link;
}
