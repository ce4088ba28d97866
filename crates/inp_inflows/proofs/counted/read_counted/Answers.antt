use Rattle.std.proofs.Common.{◌≡◌, ◌∙◌, ◌++◌, [], ap, sym, length, take, filter, append-nil, refl, ◌≤◌, List, arith}
use Rattle.net_types.specs.declared.faults.LineFault.{LineFault}
use Rattle.inp_lines.specs.Faults.{cut}
use Rattle.inp_lines.specs.Gather.{gather, records_in, faults_in}
use Rattle.inp_lines.proofs.GatherLemmas.{gather_kept, gather_cut, gather_all}
use Rattle.inp_forms.specs.Context.{context_of}
use Rattle.inp_inflows.specs.Counted.{CountedForm, counted_at, counted_fault, counted_of, counted_reading, count_after, is_counted, reading_with}
use Rattle.inp_inflows.proofs.CountedLemmas.{full_by_count, count_next}
use Rattle.inp_inflows.proofs.counted.read_counted.Goals as goal

short_nothing : (faults : List LineFault) → faults ≡ [] → length faults ≤ 100
short_nothing faults e = omega (arith, ap (length {A = LineFault}) e)

pub loop-line-init : goal.loop-line-init
loop-line-init g c = record {
  count_is = refl;
  records_are = sym (append-nil c.args.records.now);
  faults_are = c.new-found.ensures;
  short = short_nothing c.new-found.result c.new-found.ensures;
}

pub loop-line-preserved : goal.loop-line-preserved
unfolding counted_reading
loop-line-preserved g c =
    let known = context_of c.args.known.now in
    let form : CountedForm g.row.F-Record.Denot = record { is_of = g.F.Counted.is_of; row = g.F.Form.form } in
    let lines = c.as_slice-line-items.result.now in
    let i = c.loop-line.line-index in
    let line = c.line-item.result in
    let so_far = c.loop-line.invariant in
    let test = full_by_count (length (filter (is_counted form) (take i lines))) c.loop-line.count so_far.count_is in
    let reading = c.in_ok-reading.ensures ∙ ap (λ full. reading_with known form full line) test in
    record {
      count_is = c.count_line-count.ensures ∙ (ap (count_after form line) so_far.count_is ∙ sym (count_next form lines i line c.loop-line-test.true c.line-item.is));
      records_are = gather_kept (counted_at known form) lines i line c.args.records.now c.loop-line.records c.keep.new.records (records_in c.in_ok-reading.reading)
          c.loop-line-test.true c.line-item.is (ap records_in reading) so_far.records_are c.in_ok-keep.ensures.records;
      faults_are = gather_cut (counted_fault known form) lines i line [] c.loop-line.found c.keep.new.faults (faults_in line c.in_ok-reading.reading)
          c.loop-line-test.true c.line-item.is (ap (λ r. faults_in line r) reading) so_far.faults_are c.in_ok-keep.ensures.faults;
      short = c.in_ok-keep.ensures.short;
    }

pub returns-clause-records : goal.returns-clause-records
unfolding counted_of
returns-clause-records g c =
    let known = context_of c.args.known.now in
    let form : CountedForm g.row.F-Record.Denot = record { is_of = g.F.Counted.is_of; row = g.F.Form.form } in
    let lines = c.as_slice-line-items.result.now in
    c.loop-line.invariant.records_are
    ∙ ap (λ l. c.args.records.now ++ l) (gather_all (counted_at known form) lines c.loop-line.line-index c.loop-line-test.false
    ∙ ap (λ l. gather (counted_at known form) [] l) c.as_slice-line-items.ensures)

pub returns-clause-faults : goal.returns-clause-faults
returns-clause-faults g c =
    let known = context_of c.args.known.now in
    let form : CountedForm g.row.F-Record.Denot = record { is_of = g.F.Counted.is_of; row = g.F.Form.form } in
    let lines = c.as_slice-line-items.result.now in
    c.loop-line.invariant.faults_are
    ∙ ap cut (gather_all (counted_fault known form) lines c.loop-line.line-index c.loop-line-test.false
    ∙ ap (λ l. gather (counted_fault known form) [] l) c.as_slice-line-items.ensures)
