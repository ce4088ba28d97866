-- Each group so far has a true test.
use Rattle.std.proofs.Common.{◌≡◌, take, true}
use Rattle.std.specs.List.{list_all, list_any}
use Rattle.control_rules.specs.Conditions.{conditions_of}
use Rattle.control_rules.specs.Tests.{is_true as is_true_test}
use Rattle.control_rules.proofs.groups.is_met.Given as goal

abbrev pub invariant-loop-group : goal.invariant-loop-group
invariant-loop-group l = list_all (λ group. list_any (is_true_test l.project.nodes (conditions_of l.facts)) group) (take l.group-index l.group-items) ≡ true
