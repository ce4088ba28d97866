use Rattle.std.proofs.Common.{◌≡◌, ◌+◌, ◌*◌, ◌≤◌, ◌<◌, arith}
use Rattle.fixed_num.proofs.RootLemmas.{root3_of-is}
use Rattle.quick_quotients.proofs.cube.is_root3.Goals as goal

pub returns : goal.returns
returns c = λ h. root3_of-is c.args.a c.args.root (omega arith) (grind (arith, h))
