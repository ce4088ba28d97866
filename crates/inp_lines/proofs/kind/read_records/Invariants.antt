use Rattle.std.proofs.Common.{◌≡◌, ◌≤◌, ◌++◌, [], ℕ, List, length, take}
use Rattle.net_types.specs.declared.faults.LineFault.{LineFault}
use Rattle.inp_lines.specs.Faults.{cut}
use Rattle.inp_lines.specs.Gather.{gather, record_at, fault_at}
use Rattle.inp_lines.specs.Names.{defined}
use Rattle.inp_lines.proofs.kind.read_records.Given as goal

-- what the lines so far gave
pub record ReadSoFar {A : Type 0} (held : List (List ℕ)) (count : ℕ) (records given : List A) (faults found : List LineFault) : Type 0 where
  pub count_of : length held ≡ count
  pub records_are : records ≡ given
  pub faults_are : faults ≡ cut found
  pub short : length faults ≤ 100

abbrev pub invariant-loop-line : goal.invariant-loop-line
invariant-loop-line g l =
    let before = take l.line-index l.line-items in
    let name_of = g.K.Kind.name_of l.kind in
    let reading_of = g.K.RecordKind.reading_of l.kind in
    ReadSoFar (defined name_of before) l.count l.records (l.initial.records ++ gather (record_at name_of reading_of) [] before)
    l.faults (l.initial.faults ++ gather (fault_at name_of reading_of) [] before)
