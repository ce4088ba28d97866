use Rattle.std.proofs.Common.{◌≡◌, ◌≤◌, ◌++◌, [], ℕ, List, length, take}
use Rattle.net_types.specs.declared.faults.LineFault.{LineFault}
use Rattle.inp_lines.specs.Faults.{cut}
use Rattle.inp_lines.specs.Gather.{gather}
use Rattle.inp_forms.specs.Context.{context_of}
use Rattle.inp_inflows.specs.Counted.{CountedForm, counted_at, counted_fault}
use Rattle.inp_inflows.proofs.CountedLemmas.{counted}
use Rattle.inp_inflows.proofs.counted.read_counted.Given as goal

-- what the lines so far gave
pub record ReadSoFar {R : Type 0} (count counted_so_far : ℕ) (records given : List R) (faults found : List LineFault) : Type 0 where
  pub count_is : count ≡ counted_so_far
  pub records_are : records ≡ given
  pub faults_are : faults ≡ cut found
  pub short : length faults ≤ 100

abbrev pub invariant-loop-line : goal.invariant-loop-line
invariant-loop-line g l =
    let before = take l.line-index l.line-items in
    let known = context_of l.known in
    let form : CountedForm g.row.F-Record.Denot = record { is_of = g.F.Counted.is_of; row = g.F.Form.form } in
    ReadSoFar l.count (counted form before) l.records (l.initial.records ++ gather (counted_at known form) [] before)
    l.found (gather (counted_fault known form) [] before)
