use Rattle.std.proofs.lemmas.Int.{to_z-of_z}
use Rattle.fixed_num.proofs.Bounds.{within_sub, within_up, fits128}
use Rattle.runoff_states.proofs.account.closed.Goals as goal

pub overflow_sub-result-3 : goal.overflow_sub-result-3
overflow_sub-result-3 c =
    let h = c.requires in
    let one = within_sub h.rain h.infil in
    let two = within_sub one h.runoff in
    let three = within_sub two h.stored in
    simp (
      to_z-of_z,
      fits128 h.rain tt,
      fits128 h.infil tt,
      fits128 h.runoff tt,
      fits128 h.stored tt,
      fits128 one tt,
      fits128 two tt,
    ) (fits128 three tt)

pub returns-clause-error : goal.returns-clause-error
returns-clause-error c =
    let h = c.requires in
    let one = within_sub h.rain h.infil in
    let two = within_sub one h.runoff in
    let three = within_sub two h.stored in
    simp (
      to_z-of_z,
      fits128 h.rain tt,
      fits128 h.infil tt,
      fits128 h.runoff tt,
      fits128 h.stored tt,
      fits128 one tt,
      fits128 two tt,
      fits128 three tt,
    )

pub returns-clause-range : goal.returns-clause-range
returns-clause-range c =
    let h = c.requires in
    let one = within_sub h.rain h.infil in
    let two = within_sub one h.runoff in
    let three = within_sub two h.stored in
    simp (
      to_z-of_z,
      fits128 h.rain tt,
      fits128 h.infil tt,
      fits128 h.runoff tt,
      fits128 h.stored tt,
      fits128 one tt,
      fits128 two tt,
      fits128 three tt,
    )
    (record {
      rain = within_up h.rain tt;
      infil = within_up h.infil tt;
      runoff = within_up h.runoff tt;
      stored = within_up h.stored tt;
      error = within_up three tt;
    })
