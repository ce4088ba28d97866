use Rattle.std.proofs.Common.{◌≡◌, take}
use Rattle.link_eval.proofs.curves.copy_curves.Given as goal

abbrev pub invariant-loop-curve : goal.invariant-loop-curve
invariant-loop-curve l = l.copy ≡ take l.curve-index l.curves
