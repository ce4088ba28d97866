use Rattle.fixed_num.proofs.RoundingLemmas.{rounded_up, rounded_down}
use Rattle.fixed_num.proofs.rounding.rounded_short.Goals as goal
use Rattle.std.proofs.Common.{arith}

pub returns-then-rest-k : goal.returns-then-rest-k
returns-then-rest-k c = rounded_up c.args.n c.args.k c.requires (omega arith)

pub returns-else-rest-k : goal.returns-else-rest-k
returns-else-rest-k c = rounded_down c.args.n c.args.k c.requires (omega arith)
