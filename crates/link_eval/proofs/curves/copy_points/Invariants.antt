use Rattle.std.proofs.Common.{◌≡◌, take}
use Rattle.link_eval.proofs.curves.copy_points.Given as goal

abbrev pub invariant-loop-i : goal.invariant-loop-i
invariant-loop-i l = l.copy ≡ take l.i l.points
