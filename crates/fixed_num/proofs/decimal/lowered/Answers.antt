use Rattle.std.proofs.Common.{◌≡◌, ◌*◌, ◌^◌, ◌∙◌, ap, arith}
use Rattle.fixed_num.specs.Rounding.{rounded}
use Rattle.fixed_num.proofs.DecimalLemmas.{power_at_most, lowered-at_most, lowered-positive}
use Rattle.fixed_num.proofs.RoundingLemmas.{rounded_le}
use Rattle.fixed_num.proofs.decimal.lowered.Goals as goal
use Rattle.fixed_num.proofs.decimal.lowered.Goals.{After-pow}

product : (c : After-pow) → c.args.den * c.pow.result ≡ c.args.den * 10 ^ c.args.power
product c = ap (λ n. c.args.den * n) c.pow.ensures

pub pow-requires : goal.pow-requires
pow-requires c = omega (arith, power_at_most c.args.power 27 c.requires.power)

pub overflow_mul-den : goal.overflow_mul-den
overflow_mul-den c =
    let most = lowered-at_most c.args.den c.args.power c.requires.den_small c.requires.power in
    omega (arith, product c)

pub rounded-requires : goal.rounded-requires
rounded-requires c = omega (arith, product c, lowered-positive c.args.den c.args.power c.requires.den)

pub returns-clause-small : goal.returns-clause-small
returns-clause-small c =
    let value : c.rounded.result ≡ rounded c.args.amount (c.args.den * 10 ^ c.args.power) =
    c.rounded.ensures ∙ ap (λ n. rounded c.args.amount (c.args.den * n)) c.pow.ensures in
    let less = rounded_le c.args.amount (c.args.den * 10 ^ c.args.power) in
    omega arith
