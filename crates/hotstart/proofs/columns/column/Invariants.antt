-- The values so far.
use Rattle.std.proofs.Common.{◌≡◌}
use Rattle.hotstart.specs.Reading.{column as column_of}
use Rattle.hotstart.proofs.columns.column.Given as goal

abbrev pub invariant-loop-k : goal.invariant-loop-k
invariant-loop-k l = l.values ≡ column_of l.file l.place l.apart l.k
