use Rattle.std.proofs.Common.{◌≡◌, FitsSigned, rules, arith}
use Rattle.std.specs.Int.{w64}
use Rattle.std.proofs.lemmas.Int.{to_z-of_z}
use Rattle.storage_shapes.specs.ShapeArea.{whole_power_of}
use Rattle.storage_shapes.proofs.powers.whole_power.Goals as goal

pub returns-then-wholes-eq1-clause-value : goal.returns-then-wholes-eq1-clause-value
returns-then-wholes-eq1-clause-value c =
    let one : FitsSigned w64 c.product-one.result = search rules in
    let e = simp (to_z-of_z, c.ranges.x) at c.product-one.ensures.value in
    simp (to_z-of_z, one) (rw c.if-wholes-eq1.true e)

pub returns-then-wholes-eq2-clause-value : goal.returns-then-wholes-eq2-clause-value
returns-then-wholes-eq2-clause-value c =
    let one : FitsSigned w64 c.product-one.result = search rules in
    let two : FitsSigned w64 c.product-two.result = search rules in
    let e = simp (to_z-of_z, c.ranges.x) at c.product-one.ensures.value in
    let f = simp (to_z-of_z, one, c.ranges.x) at c.product-two.ensures.value in
    let g = rw e at f in
    simp (to_z-of_z, two) (rw c.if-wholes-eq2.true g)

pub returns-clause-value : goal.returns-clause-value
returns-clause-value c =
    let one : FitsSigned w64 c.product-one.result = search rules in
    let two : FitsSigned w64 c.product-two.result = search rules in
    let three : FitsSigned w64 c.product.result = search rules in
    let e = simp (to_z-of_z, c.ranges.x) at c.product-one.ensures.value in
    let f = simp (to_z-of_z, one, c.ranges.x) at c.product-two.ensures.value in
    let h = simp (to_z-of_z, two, c.ranges.x) at c.product.ensures.value in
    let g = rw e at f in
    let k = rw g at h in
    let wholes : c.args.wholes ≡ 3 = omega (
      arith,
      c.requires.few,
      c.if-wholes-eq0.false,
      c.if-wholes-eq1.false,
      c.if-wholes-eq2.false,
    ) in
    simp (to_z-of_z, three) (rw wholes k)
