-- No test so far is true.
use Rattle.std.proofs.Common.{◌≡◌, take, false}
use Rattle.std.specs.List.{list_any}
use Rattle.control_rules.specs.Conditions.{conditions_of}
use Rattle.control_rules.specs.Tests.{is_true as is_true_test}
use Rattle.control_rules.proofs.groups.has_true_test.Given as goal

abbrev pub invariant-loop-test : goal.invariant-loop-test
invariant-loop-test l = list_any (is_true_test l.project.nodes (conditions_of l.facts)) (take l.test-index l.test-items) ≡ false
