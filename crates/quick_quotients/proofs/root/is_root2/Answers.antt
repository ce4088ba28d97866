use Rattle.std.proofs.Common.{◌≡◌, ◌+◌, ◌*◌, ◌≤◌, ◌<◌, arith}
use Rattle.fixed_num.proofs.RootLemmas.{root2_of-is}
use Rattle.quick_quotients.proofs.root.is_root2.Goals as goal

pub returns : goal.returns
returns c = λ h. root2_of-is c.args.a c.args.root (omega arith) (grind (arith, h))
