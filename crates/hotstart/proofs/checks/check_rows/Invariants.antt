-- The rows so far are good.
use Rattle.std.proofs.Common.{map}
use Rattle.hotstart.specs.Checks.{AreGood, range_field}
use Rattle.hotstart.specs.Layout.{times}
use Rattle.hotstart.proofs.checks.check_rows.Given as goal

abbrev pub invariant-loop-done : goal.invariant-loop-done
invariant-loop-done l = AreGood l.file l.from (times l.done (map range_field l.row)) l.place
