use Rattle.inp_reader.proofs.TitleLemmas.{title_next, title_end}
use Rattle.inp_reader.proofs.title.read_title.Goals as goal

pub loop-line-preserved : goal.loop-line-preserved
loop-line-preserved c = record {
  title_is = title_next c.as_slice-line-items.result.now c.loop-line.line-index c.line-item.result c.loop-line.title c.add_title.new.title
      c.loop-line-test.true c.line-item.is c.loop-line.invariant.title_is c.in_ok-add_title.ensures.title;
  short = c.in_ok-add_title.ensures.short;
}

pub returns : goal.returns
returns c = title_end c.as_slice-line-items.result.now c.args.lines.now c.loop-line.line-index c.loop-line.title c.loop-line-test.false c.as_slice-line-items.ensures c.loop-line.invariant.title_is
