use Rattle.std.proofs.Common.{◌≡◌, false, ◌∙◌, sym, ap, List, get_or}
use Rattle.std.specs.List.{list_all, list_any}
use Rattle.std.proofs.lemmas.List.{take_all}
use Rattle.std.proofs.lemmas.List.Folds.{list_all_at}
use Rattle.net_types.specs.declared.rules.Test.{Test}
use Rattle.control_rules.specs.Conditions.{conditions_of}
use Rattle.control_rules.specs.Tests.{is_true as is_true_test, is_met as is_met_rule}
use Rattle.control_rules.proofs.groups.is_met.Goals as goal

pub returns-then-not-has_true_test : goal.returns-then-not-has_true_test
unfolding is_met_rule
returns-then-not-has_true_test c =
    let seen = conditions_of c.args.facts.now in
    let test = λ (group : List Test). list_any (is_true_test c.args.project.now.nodes seen) group in
    let items = c.as_slice-group-items.result.now in
    let at = c.loop-group.group-index in
    let fails : test (get_or items at c.group-item.result) ≡ false = ap test (sym c.group-item.is) ∙ sym c.has_true_test.ensures ∙ c.if-not-has_true_test.true in
    sym (ap (list_all test) (sym c.as_slice-group-items.ensures) ∙ list_all_at test items at c.group-item.result c.loop-group-test.true fails)

pub returns : goal.returns
unfolding is_met_rule
returns c =
    let seen = conditions_of c.args.facts.now in
    let test = λ (group : List Test). list_any (is_true_test c.args.project.now.nodes seen) group in
    let items = c.as_slice-group-items.result.now in
    sym (ap (list_all test) (sym c.as_slice-group-items.ensures ∙ sym (take_all c.loop-group.group-index items c.loop-group-test.false)) ∙ c.loop-group.invariant)
