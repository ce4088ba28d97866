use Rattle.std.proofs.Common.{arith, map, List, ℕ, subst}
use Rattle.std.proofs.lemmas.List.{take_all}
use Rattle.hotstart.specs.Checks.{AreGood}
use Rattle.hotstart.specs.Layout.{letter}
use Rattle.hotstart.proofs.CheckLemmas.{good_none, row_more, row_fault}
use Rattle.hotstart.proofs.checks.check_letters.Goals as goal

pub loop-byte-init : goal.loop-byte-init
loop-byte-init c = good_none c.args.file.now 0 (omega arith)

pub loop-byte-preserved : goal.loop-byte-preserved
loop-byte-preserved c = row_more letter c.args.file.now 0 c.loop-byte.place c.in-Ok.next c.loop-byte.byte-index c.args.letters.now _ c.loop-byte-test.true c.loop-byte.invariant c.in-Ok.ensures

pub returns-in-Err : goal.returns-in-Err
returns-in-Err c = row_fault letter c.args.file.now 0 c.loop-byte.place c.loop-byte.byte-index c.args.letters.now _ c.in-Err.refusal c.loop-byte-test.true c.loop-byte.invariant c.in-Err.ensures

pub returns : goal.returns
returns c = subst (λ (l : List ℕ). AreGood c.args.file.now 0 (map letter l) c.loop-byte.place) (take_all c.loop-byte.byte-index c.args.letters.now c.loop-byte-test.false) c.loop-byte.invariant
