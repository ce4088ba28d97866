use Rattle.std.proofs.Common.{◌≡◌}
use Rattle.xsect_tables.specs.NormalFlow.{is_carried as carried_at}
use Rattle.xsect_tables.specs.FirstPlaces.{first_that}
use Rattle.xsect_tables.proofs.table.Table.normal.Given as goal

abbrev pub invariant-loop-i : goal.invariant-loop-i
invariant-loop-i l = first_that (carried_at l.self l.q l.n6 l.slope6) l.i ≡ l.i
