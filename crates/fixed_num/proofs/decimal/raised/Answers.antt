use Rattle.std.proofs.Common.{◌≡◌, ◌*◌, ◌^◌, ◌∙◌, ap, arith}
use Rattle.fixed_num.specs.Rounding.{rounded}
use Rattle.fixed_num.proofs.DecimalLemmas.{raised-at_most}
use Rattle.fixed_num.proofs.RoundingLemmas.{rounded_le}
use Rattle.fixed_num.proofs.decimal.raised.Goals as goal

pub returns-clause-small : goal.returns-clause-small
returns-clause-small c =
    let value : c.rounded.result ≡ rounded (c.args.amount * 10 ^ c.args.power) c.args.den =
    c.rounded.ensures ∙ ap (λ n. rounded (c.args.amount * n) c.args.den) c.pow.ensures in
    let most = raised-at_most c.args.amount c.args.power c.requires.amount c.requires.power in
    let less = rounded_le (c.args.amount * 10 ^ c.args.power) c.args.den in
    omega arith
