use Rattle.std.proofs.Common.{◌∙◌, length, take, ap, sym, append-nil}
use Rattle.std.proofs.lemmas.List.{take_all}
use Rattle.inp_lines.specs.Faults.{cut}
use Rattle.inp_lines.specs.Gather.{record_at, fault_at, records_in, faults_in}
use Rattle.inp_lines.specs.Names.{number_in, defined, count_after}
use Rattle.inp_lines.proofs.GatherLemmas.{gather_kept, gather_cut}
use Rattle.inp_lines.proofs.NameLemmas.{defined_none, defined_next, defined_front, count_is}
use Rattle.inp_lines.proofs.kind.read_records.Goals as goal

pub loop-line-init : goal.loop-line-init
loop-line-init g c = record {
  count_of = ap length (defined_none (g.K.Kind.name_of c.args.kind.now));
  records_are = sym (append-nil c.args.records.now);
  faults_are = sym (ap cut (append-nil c.args.faults.now) ∙ take_all 100 c.args.faults.now c.requires.short);
  short = c.requires.short;
}

pub loop-line-preserved : goal.loop-line-preserved
loop-line-preserved g c =
    let name_of = g.K.Kind.name_of c.args.kind.now in
    let reading_of = g.K.RecordKind.reading_of c.args.kind.now in
    let lines = c.as_slice-line-items.result.now in
    let i = c.loop-line.line-index in
    let line = c.line-item.result in
    let so_far = c.loop-line.invariant in
    let held = defined name_of (take i lines) in
    let front = defined_front name_of lines i in
    let naming = c.naming_of_line-naming.ensures held front.0 (c.requires.names ∙ (ap (λ l. number_in (defined name_of l)) (sym c.as_slice-line-items.ensures) ∙ ap number_in front.1)) so_far.count_of in
    let next = defined_next name_of lines i line c.loop-line-test.true c.line-item.is in
    record {
      count_of = ap length next ∙ (count_is held (name_of line) c.loop-line.count so_far.count_of
          ∙ (ap (λ n. count_after (name_of line) n c.loop-line.count) (sym naming) ∙ sym c.count_line-count.ensures));
      records_are = gather_kept (record_at name_of reading_of) lines i line c.args.records.now c.loop-line.records c.read_line.new.records
          (records_in (reading_of c.naming_of_line-naming.result line)) c.loop-line-test.true c.line-item.is
          (ap (λ n. records_in (reading_of n line)) naming) so_far.records_are c.in_ok-read_line.ensures.records;
      faults_are = gather_cut (fault_at name_of reading_of) lines i line c.args.faults.now c.loop-line.faults c.read_line.new.faults
          (faults_in line (reading_of c.naming_of_line-naming.result line)) c.loop-line-test.true c.line-item.is
          (ap (λ n. faults_in line (reading_of n line)) naming) so_far.faults_are c.in_ok-read_line.ensures.faults;
      short = c.in_ok-read_line.ensures.short;
    }
