-- The values so far are good.
use Rattle.std.proofs.Common.{map, take}
use Rattle.hotstart.specs.Checks.{AreGood, range_field}
use Rattle.hotstart.proofs.checks.check_row.Given as goal

abbrev pub invariant-loop-range : goal.invariant-loop-range
invariant-loop-range l = AreGood l.file l.from (map range_field (take l.range-index l.row)) l.place
