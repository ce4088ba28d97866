use Rattle.std.proofs.Common.{arith, rules, ap, sym, ◌∙◌, ◌≡◌, Some, to_z-of_z, FitsSigned, w32, w64}
use Rattle.jiff_core.proofs.SignedLemmas.{signed_arith}
use Rattle.calendar_steps.specs.Calendar.{day_number, IsRealDay, IsCalendarDay}
use Rattle.calendar_steps.proofs.CalendarLemmas.{real_range, real_found, unreal_none, number_of_date}
use Rattle.calendar_steps.proofs.CivilLemmas.{civil_is}
use Rattle.calendar_steps.proofs.civil.day_of.Goals as goal

real : (c : goal.After-to_unix_epoch_day) → IsRealDay c.args.year c.args.month c.args.day
real c = c.in-Some.ensures.real.0 (search rules)

number : (c : goal.After-to_unix_epoch_day) → c.to_unix_epoch_day.result ≡ day_number c.args.year c.args.month c.args.day
number c =
    c.to_unix_epoch_day.ensures.value
    ∙ rw c.to_plain.ensures (number_of_date _ _ _ c.in-Some.found c.in-Some.ensures.parts)

pub returns-in-Some-clause-number : goal.returns-in-Some-clause-number
returns-in-Some-clause-number c =
    let f32 : FitsSigned w32 c.to_unix_epoch_day.result = search rules in
    let f64 : FitsSigned w64 c.to_unix_epoch_day.result = omega (arith, signed_arith) in
    simp (to_z-of_z, f32, f64) (number c)

pub returns-in-Some-clause-range : goal.returns-in-Some-clause-range
returns-in-Some-clause-range c =
    let f32 : FitsSigned w32 c.to_unix_epoch_day.result = search rules in
    let f64 : FitsSigned w64 c.to_unix_epoch_day.result = omega (arith, signed_arith) in
    let range : IsCalendarDay c.to_unix_epoch_day.result = rw (number c) (real_range _ _ _ (real c)) in
    simp (to_z-of_z, f32, f64) range

pub returns-in-Some-clause-value : goal.returns-in-Some-clause-value
returns-in-Some-clause-value c = ap Some (returns-in-Some-clause-number c) ∙ sym (real_found _ _ _ (real c))

pub returns-in-None-clause-value : goal.returns-in-None-clause-value
returns-in-None-clause-value c =
    sym (unreal_none _ _ _ (λ found. let some = c.in-None.ensures.real.1 found in absurd (cc)))
