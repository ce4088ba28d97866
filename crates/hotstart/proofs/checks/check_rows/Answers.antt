use Rattle.std.proofs.Common.{arith, map, ℕ, subst, ◌≡◌}
use Rattle.hotstart.specs.Checks.{AreGood, range_field}
use Rattle.hotstart.specs.Layout.{times}
use Rattle.hotstart.proofs.CheckLemmas.{good_none, rows_more, rows_fault}
use Rattle.hotstart.proofs.checks.check_rows.Goals as goal

pub loop-done-init : goal.loop-done-init
loop-done-init c = good_none c.args.file.now c.args.from c.requires

pub loop-done-preserved : goal.loop-done-preserved
loop-done-preserved c = rows_more c.args.file.now c.args.from c.loop-done.place c.in-Ok.next c.loop-done.done (map range_field c.args.row.now) c.loop-done.invariant c.in-Ok.ensures

pub returns-in-Err : goal.returns-in-Err
returns-in-Err c = rows_fault c.args.file.now c.args.from c.loop-done.place c.loop-done.done c.args.rows (map range_field c.args.row.now) c.in-Err.refusal c.loop-done-test.true c.loop-done.invariant c.in-Err.ensures

pub returns : goal.returns
returns c =
    let all : c.loop-done.done ≡ c.args.rows = omega arith in
    subst (λ (n : ℕ). AreGood c.args.file.now c.args.from (times n (map range_field c.args.row.now)) c.loop-done.place) all c.loop-done.invariant
