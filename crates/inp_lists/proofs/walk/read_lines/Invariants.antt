use Rattle.std.proofs.Common.{◌≡◌, ◌≤◌, [], List, length, take}
use Rattle.net_types.specs.declared.faults.LineFault.{LineFault}
use Rattle.inp_lines.specs.Faults.{cut}
use Rattle.inp_lines.specs.Gather.{gather, walk_fault}
use Rattle.inp_lists.specs.Chains.{chain_fault, kept}
use Rattle.inp_lists.specs.Holding.{HoldsLines}
use Rattle.inp_lists.proofs.walk.read_lines.Given as goal

-- what is held and found after the lines so far
pub record ReadSoFar (Held : Type 0) (faults found : List LineFault) : Type 0 where
  pub held : Held
  pub faults_are : faults ≡ cut found
  pub short : length faults ≤ 100

abbrev pub invariant-loop-line : goal.invariant-loop-line
invariant-loop-line g l =
    let before = take l.line-index l.line-items in
    let form = g.C.Chain.form l.chain in
    ReadSoFar (HoldsLines form (kept form before) l.held) l.faults (gather (walk_fault (chain_fault form)) [] before)
