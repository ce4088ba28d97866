use Rattle.std.proofs.Common.{map, List, subst}
use Rattle.std.proofs.lemmas.List.{take_all}
use Rattle.hotstart.specs.Checks.{AreGood, range_field}
use Rattle.hotstart.specs.declared.checks.Range.{Range}
use Rattle.hotstart.proofs.CheckLemmas.{good_none, row_more, row_fault}
use Rattle.hotstart.proofs.checks.check_row.Goals as goal

pub loop-range-init : goal.loop-range-init
loop-range-init c = good_none c.args.file.now c.args.from c.requires

pub loop-range-preserved : goal.loop-range-preserved
loop-range-preserved c = row_more range_field c.args.file.now c.args.from c.loop-range.place c.in-Ok.next c.loop-range.range-index c.args.row.now _ c.loop-range-test.true c.loop-range.invariant c.in-Ok.ensures

pub returns-in-Err : goal.returns-in-Err
returns-in-Err c = row_fault range_field c.args.file.now c.args.from c.loop-range.place c.loop-range.range-index c.args.row.now _ c.in-Err.refusal c.loop-range-test.true c.loop-range.invariant c.in-Err.ensures

pub returns : goal.returns
returns c = subst (λ (l : List Range). AreGood c.args.file.now c.args.from (map range_field l) c.loop-range.place) (take_all c.loop-range.range-index c.args.row.now c.loop-range-test.false) c.loop-range.invariant
