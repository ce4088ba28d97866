use Rattle.std.proofs.Common.{arith, rules, ◌≡◌, pos, ◌∙◌, to_z-of_z, FitsSigned, w8, w16, w32, unsigned_abs, sym}
use Rattle.jiff_core.proofs.SignedLemmas.{signed_arith}
use Rattle.jiff_core.specs.Date.{epoch_day}
use Rattle.jiff_core.specs.Calendar.{days_from_civil}
use Rattle.jiff_core.proofs.DateLemmas.{civil}
use Rattle.calendar_steps.specs.Calendar.{day_number, IsRealDay, IsCalendarDay}
use Rattle.calendar_steps.proofs.CalendarLemmas.{real_epoch}
use Rattle.calendar_steps.proofs.CivilLemmas.{civil_is}
use Rattle.calendar_steps.proofs.civil.civil_of.Goals as goal

pub overflow_cast-result : goal.overflow_cast-result
overflow_cast-result c =
    let found = real_epoch c.date_of-found.result c.args.day (c.date_of-found.ensures ∙ to_z-of_z c.ranges.day) c.requires in
    omega (arith, signed_arith, c.year.ensures, found.0, found.1.year_in.1)

pub returns-clause-parts : goal.returns-clause-parts
returns-clause-parts c =
    let found = real_epoch c.date_of-found.result c.args.day (c.date_of-found.ensures ∙ to_z-of_z c.ranges.day) c.requires in
    let fy : FitsSigned w16 c.year.result = search rules in
    let fm : FitsSigned w8 c.month.result = search rules in
    let fd : FitsSigned w8 c.day.result = search rules in
    simp (to_z-of_z, fy, fm, fd)
    (rw (c.year.ensures, c.month.ensures, c.day.ensures) (record { real = found.1; same = found.2 }))

pub returns-clause-value : goal.returns-clause-value
returns-clause-value c = civil_is c.args.day _ (returns-clause-parts c)
