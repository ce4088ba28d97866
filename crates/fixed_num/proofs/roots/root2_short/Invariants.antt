use Rattle.std.proofs.Common.{◌+◌, ◌*◌, ◌^◌, ◌<◌}
use Rattle.fixed_num.proofs.roots.root2_short.Given as goal

abbrev pub invariant-loop-root : goal.invariant-loop-root
invariant-loop-root l = record { small : l.root < 2 ^ 32; below_next : l.a < (l.root + 1) * (l.root + 1) }

abbrev pub decreases-loop-root : goal.decreases-loop-root
decreases-loop-root l = l.root
