use Rattle.std.proofs.Common.{arith, rules, ◌≡◌, pos, ◌∙◌, ◌+ℤ◌, to_z, of_z, w64}
use Rattle.jiff_core.proofs.SignedLemmas.{signed_arith}
use Rattle.jiff_core.specs.Date.{epoch_day}
use Rattle.calendar_steps.proofs.CalendarLemmas.{epoch_is_zero}
use Rattle.calendar_steps.proofs.civil.date_of.Goals as goal

pub unwrap-requires : goal.unwrap-requires
unwrap-requires c =
    let zero : epoch_day c.to_plain.result ≡ pos 0 = rw c.to_plain.ensures (epoch_is_zero c.date-epoch.result c.date-epoch.ensures) in
    c.checked_add.ensures.succeeds.1 (omega (arith, signed_arith))

pub returns : goal.returns
returns c =
    let zero : epoch_day c.to_plain.result ≡ pos 0 = rw c.to_plain.ensures (epoch_is_zero c.date-epoch.result c.date-epoch.ensures) in
    let added : epoch_day c.unwrap.result ≡ epoch_day c.to_plain.result +ℤ to_z w64 (of_z w64 c.args.day) =
    rw c.unwrap.ensures at c.checked_add.ensures.value in
    rw c.from_plain.ensures (omega (arith, signed_arith))
