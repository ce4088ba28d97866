-- The letters so far are good.
use Rattle.std.proofs.Common.{map, take}
use Rattle.hotstart.specs.Checks.{AreGood}
use Rattle.hotstart.specs.Layout.{letter}
use Rattle.hotstart.proofs.checks.check_letters.Given as goal

abbrev pub invariant-loop-byte : goal.invariant-loop-byte
invariant-loop-byte l = AreGood l.file 0 (map letter (take l.byte-index l.letters)) l.place
