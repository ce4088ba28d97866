use Rattle.std.proofs.Common.{arith, rules, refl, ap, ◌≡◌, pos, ◌∙◌, ◌+◌, ◌%◌, to_z-of_z, FitsSigned, w8, w16, w32, w64, unsigned_abs, sym, ◌+ℤ◌}
use Rattle.jiff_core.proofs.SignedLemmas.{signed_arith}
use Rattle.calendar_steps.specs.Calendar.{IsCalendarDay}
use Rattle.calendar_steps.specs.Moment.{point_on, day_at, weekday_on}
use Rattle.std.specs.Int.{int_div_euclid}
use Rattle.jiff_core.specs.Date.{epoch_day}
use Rattle.jiff_core.specs.Weekday.{monday_zero}
use Rattle.calendar_steps.proofs.CivilLemmas.{month_of_date, weekday_is}
use Rattle.calendar_steps.proofs.point.point_at.Goals as goal

pub returns-clause-value : goal.returns-clause-value
unfolding point_on day_at
returns-clause-value c =
    let fs : FitsSigned w64 (c.args.start +ℤ c.args.moment) = omega (arith, signed_arith, c.requires.0, c.requires.1) in
    let fd : FitsSigned w64 c.div_euclid.result = search rules in
    let fr : FitsSigned w64 c.rem_euclid.result = search rules in
    let fm : FitsSigned w8 c.month.result = search rules in
    let fw : FitsSigned w8 c.to_sunday_one_offset.result = search rules in
    let day : c.div_euclid.result ≡ int_div_euclid (c.args.start +ℤ c.args.moment) (pos 86_400_000) = simp (to_z-of_z, c.ranges.start, c.ranges.moment, fs) at c.div_euclid.ensures in
    let time = simp (to_z-of_z, c.ranges.start, c.ranges.moment, fs) at c.rem_euclid.ensures.value in
    let found : epoch_day c.date_of-found.result ≡ int_div_euclid (c.args.start +ℤ c.args.moment) (pos 86_400_000) = (simp (to_z-of_z, fd) at c.date_of-found.ensures) ∙ day in
    let range : IsCalendarDay (int_div_euclid (c.args.start +ℤ c.args.moment) (pos 86_400_000)) = (omega (arith, signed_arith, c.requires.0), omega (arith, signed_arith, c.requires.1)) in
    let month = month_of_date c.date_of-found.result _ found range in
    let weekday : (monday_zero c.weekday.result + 1) % 7 + 1 ≡ weekday_on (int_div_euclid (c.args.start +ℤ c.args.moment) (pos 86_400_000)) =
    rw (c.weekday.ensures, found) (weekday_is _) in
    simp (to_z-of_z, fm, fw, fr) (rw (c.month.ensures, c.to_sunday_one_offset.ensures.value, time, month, ← weekday) refl)
