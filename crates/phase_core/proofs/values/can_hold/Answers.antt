use Rattle.std.proofs.Common.{◌≡◌, ℕ, subst, sym, arith}
use Rattle.std.proofs.lemmas.Int.{to_z-of_z}
use Rattle.phase_machine.specs.Places.{IsRead, IsInRange}
use Rattle.phase_core.proofs.SetLemmas.{first_holds}
use Rattle.phase_core.proofs.values.can_hold.Goals as goal

pub returns-then-place-eq-FIRST : goal.returns-then-place-eq-FIRST
returns-then-place-eq-FIRST g c =
    let law = (g.P.PhaseLaw.law c.args.law.now) in
    let range = simp (to_z-of_z, c.ranges.value) at c.is_amount.ensures in
    let e : 2 ≡ c.args.place = omega arith in (
      (λ on.
          subst
          (λ (p : ℕ). IsRead law c.args.buffer p × IsInRange law p c.args.value)
          e
          (first_holds law c.args.buffer c.requires.buffer c.args.value (range.0 on))),
      (λ both. range.1 (both.1.first (sym e))),
    )
