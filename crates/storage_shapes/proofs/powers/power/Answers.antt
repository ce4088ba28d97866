use Rattle.std.proofs.Common.{◌≡◌, ◌%◌, ◌==◌, false, FitsSigned, rules, arith}
use Rattle.std.specs.Int.{w64}
use Rattle.std.proofs.lemmas.Bool.Decides.{nat_tests}
use Rattle.std.proofs.lemmas.Int.{to_z-of_z}
use Rattle.storage_shapes.specs.ShapeArea.{power_of}
use Rattle.storage_shapes.proofs.powers.power.Goals as goal

pub returns-then-halves-eq1-clause-value : goal.returns-then-halves-eq1-clause-value
unfolding power_of
returns-then-halves-eq1-clause-value c =
    let whole : FitsSigned w64 c.whole_power-whole.result = search rules in
    let root : FitsSigned w64 c.root6.result = search rules in
    let all : FitsSigned w64 c.product.result = search rules in
    let w = simp (to_z-of_z, c.ranges.x) at c.whole_power-whole.ensures.value in
    let r = simp (to_z-of_z, c.ranges.x) at c.root6.ensures.value in
    let p = simp (to_z-of_z, whole, root) at c.product.ensures.value in
    let q = rw (w, r) at p in
    simp (to_z-of_z, all) (rw c.if-halves-eq1.true q)

pub returns-clause-value : goal.returns-clause-value
unfolding power_of
returns-clause-value c =
    let whole : FitsSigned w64 c.whole_power-whole.result = search rules in
    let w = simp (to_z-of_z, c.ranges.x) at c.whole_power-whole.ensures.value in
    let even : (c.args.halves % 2 == 1) ≡ false = grind (arith, nat_tests, c.if-halves-eq1.false) in
    simp (to_z-of_z, whole) (rw even w)
