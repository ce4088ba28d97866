use Rattle.std.proofs.Common.{◌≡◌, ◌++◌, ℕ, List, length}
use Rattle.net_types.specs.declared.faults.LineFault.{LineFault}
use Rattle.inp_lines.specs.Merge.{merged}
use Rattle.inp_lines.proofs.merge.merged_list.Given as goal

-- what is merged so far, and what is left to merge
pub record MergedSoFar (both whole left : List LineFault) (count : ℕ) : Type 0 where
  pub parts : both ++ left ≡ whole
  pub count_of : length both ≡ count

abbrev pub invariant-loop : goal.invariant-loop
invariant-loop l = MergedSoFar l.both (merged l.left l.right) (merged l.xs l.ys) l.counter
