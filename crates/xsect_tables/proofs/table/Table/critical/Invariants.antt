use Rattle.std.proofs.Common.{◌≡◌}
use Rattle.xsect_tables.specs.NormalFlow.{is_subcritical as subcritical_at}
use Rattle.xsect_tables.specs.FirstPlaces.{first_that}
use Rattle.xsect_tables.proofs.table.Table.critical.Given as goal

abbrev pub invariant-loop-i : goal.invariant-loop-i
invariant-loop-i l = first_that (subcritical_at l.self l.q) l.i ≡ l.i
