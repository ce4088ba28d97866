use Rattle.std.proofs.Common.{◌≡◌, ◌≤◌, ◌++◌, [], List, length, take}
use Rattle.net_types.specs.declared.faults.LineFault.{LineFault}
use Rattle.inp_lines.specs.Faults.{cut}
use Rattle.inp_lines.specs.Gather.{gather, walk_fault}
use Rattle.inp_lines.proofs.walk.walk_lines.Given as goal

-- what a reader holds after the lines so far
pub record WalkedSoFar {F : Type 0} (After : Type 0) (fault_of first : F) (faults found : List LineFault) : Type 0 where
  pub after : After
  pub same : fault_of ≡ first
  pub faults_are : faults ≡ cut found
  pub short : length faults ≤ 100

abbrev pub invariant-loop-line : goal.invariant-loop-line
invariant-loop-line g l =
    let before = take l.line-index l.line-items in
    let walk = g.W.LineWalk in
    WalkedSoFar (walk.is_after l.walk before l.line-items) (walk.fault_of l.walk) (walk.fault_of l.initial.walk)
    l.faults (l.initial.faults ++ gather (walk_fault (walk.fault_of l.initial.walk)) [] before)
