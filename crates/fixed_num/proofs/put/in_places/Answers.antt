use Rattle.std.proofs.Common.{◌≤◌, ℕ, pos, ◌*◌, ◌^◌, ◌*ℤ◌, ◌∙◌, ap, arith, rules, FitsSigned}
use Rattle.std.specs.Int.{w128}
use Rattle.std.proofs.lemmas.Int.{to_z-of_z, to_z_pos}
use Rattle.std.proofs.lemmas.Nat.{mul-le}
use Rattle.fixed_num.specs.Rounding.{quo_of}
use Rattle.fixed_num.proofs.DecimalLemmas.{power_at_most}
use Rattle.fixed_num.proofs.PutLemmas.{product-fits}
use Rattle.fixed_num.proofs.put.in_places.Goals as goal
use Rattle.fixed_num.proofs.put.in_places.Goals.{After-pow}

scale-small : (c : After-pow) → c.args.unit.now.den * c.pow.result ≤ 10 ^ 14
scale-small c =
    let power = power_at_most c.args.places 6 c.requires.places in
    mul-le c.args.unit.now.den c.pow.result (10 ^ 8) (10 ^ 6) c.requires.unit.den_at_most (omega arith)

pub overflow_mul-value : goal.overflow_mul-value
overflow_mul-value c =
    let small = scale-small (goal.at.overflow_mul-value c).After-pow in
    let value = to_z-of_z w128 c.args.value c.ranges.value in
    let scale = to_z_pos w128 (c.args.unit.now.den * c.pow.result) (omega arith) in
    rw (value, scale) (product-fits c.args.value (c.args.unit.now.den * c.pow.result) c.requires.value small)

pub returns : goal.returns
returns c =
    let small = scale-small (goal.at.returns c).After-pow in
    let value = to_z-of_z w128 c.args.value c.ranges.value in
    let scale = to_z_pos w128 (c.args.unit.now.den * c.pow.result) (omega arith) in
    let product = to_z-of_z w128 (c.args.value *ℤ pos (c.args.unit.now.den * c.pow.result)) (product-fits c.args.value (c.args.unit.now.den * c.pow.result) c.requires.value small) in
    let num = to_z_pos w128 c.args.unit.now.num (omega arith) in
    let fits : FitsSigned w128 c.quo.result = search rules in
    let at_call = rw (value, scale, product, num) at c.quo.ensures.value in
    to_z-of_z w128 c.quo.result fits ∙ at_call ∙ ap (λ (k : ℕ). quo_of (c.args.value *ℤ pos (c.args.unit.now.den * k)) (pos c.args.unit.now.num)) c.pow.ensures
