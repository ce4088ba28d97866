-- The places after the lists so far.
use Rattle.std.proofs.Common.{◌≡◌, ℕ, ◌<◌, length}
use Rattle.fixed_num.specs.Lists.{number}
use Rattle.control_rules.specs.Places.{settled_after}
use Rattle.control_rules.proofs.places.settle_links.Given as goal

abbrev pub invariant-loop-list : goal.invariant-loop-list
invariant-loop-list l = (link : ℕ) → link < length l.initial.places → number l.places link ≡ settled_after l.project.rules link (number l.initial.places link) l.list
