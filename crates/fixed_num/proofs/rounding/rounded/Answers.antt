use Rattle.fixed_num.proofs.RoundingLemmas.{rounded_up, rounded_down}
use Rattle.fixed_num.proofs.rounding.rounded.Goals as goal
use Rattle.std.proofs.Common.{arith}

pub returns-then-remainder-k : goal.returns-then-remainder-k
returns-then-remainder-k c = rounded_up c.args.n c.args.k c.requires (omega arith)

pub returns-else-remainder-k : goal.returns-else-remainder-k
returns-else-remainder-k c = rounded_down c.args.n c.args.k c.requires (omega arith)
