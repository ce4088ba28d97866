use Rattle.std.proofs.Common.{rules, FitsSigned, ◌∙◌, ap, ℤ, arith}
use Rattle.std.specs.Int.{w64, w128}
use Rattle.std.proofs.lemmas.Int.{to_z-of_z, ints}
use Rattle.control_rules.specs.Tests.{is_true as is_true_test, compares}
use Rattle.control_rules.proofs.groups.is_true.Goals as goal

pub returns : goal.returns
unfolding is_true_test
returns c =
    let short : FitsSigned w64 c.args.test.now.value = search rules in
    let value : FitsSigned w128 c.args.test.now.value = omega (arith, ints) in
    let subject : FitsSigned w128 c.value_of-value.result = search rules in
    let same = simp (to_z-of_z, short, value, subject) at c.compares.ensures in
    same ∙ ap (λ (v : ℤ). compares c.args.test.now.relation v c.args.test.now.value) c.value_of-value.ensures
