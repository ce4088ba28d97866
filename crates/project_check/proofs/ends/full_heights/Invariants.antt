use Rattle.std.proofs.Common.{◌≡◌}
use Rattle.fixed_num.specs.Lists.{list_of}
use Rattle.project_check.specs.FullHeight.{full_height_of}
use Rattle.project_check.proofs.ends.full_heights.Given as goal

abbrev pub invariant-loop-n : goal.invariant-loop-n
invariant-loop-n l = l.heights ≡ list_of (full_height_of l.fn.project) l.n
