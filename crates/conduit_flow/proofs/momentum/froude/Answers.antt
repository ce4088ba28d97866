use Rattle.std.proofs.Common.{◌≡◌, ◌^◌, ℤ, pos, unsigned_abs, to_z, FitsSigned, ap, ◌∙◌, arith, rules}
use Rattle.std.specs.Int.{w128, int_max}
use Rattle.std.proofs.lemmas.Int.{ints, clamps, to_z-of_z, to_z_pos}
use Rattle.fixed_num.specs.Ranges.{IsBetween}
use Rattle.fixed_num.proofs.Bounds.{within_abs, within_between, within_mul, within_number, fits64, fits128, fits_wider}
use Rattle.conduit_flow.specs.Momentum.{froude_of}
use Rattle.conduit_flow.proofs.momentum.froude.Goals as goal
use Rattle.conduit_flow.proofs.momentum.froude.Goals.{After-quo}

size : (c : After-quo) → to_z w128 c.unsigned_abs.result ≡ pos (unsigned_abs c.args.velocity)
size c =
    let e = simp (to_z-of_z, c.ranges.velocity) at c.unsigned_abs.ensures.value in
    to_z_pos w128 c.unsigned_abs.result (omega (arith, e, c.requires.velocity.within)) ∙ ap pos e

pub returns : goal.returns
unfolding froude_of
returns c =
    let s = size c in
    let wave = simp (to_z-of_z, c.ranges.wave) at c.max.ensures.value in
    let divisor : IsBetween (pos 1) c.max.result (pos (10 ^ 16)) = least c.requires.wave wave in
    let d = within_between divisor in
    let product = within_mul (within_abs c.requires.velocity) (within_number 1_000_000) in
    let result : FitsSigned w128 c.quo.result = search rules in
    let q = simp (to_z-of_z, s, fits64 d tt, fits128 d tt, fits128 product tt) at c.quo.ensures.value in
    simp (to_z-of_z, result) (cc (wave, q))
  where
    least : {w m : ℤ} → IsBetween (pos 0) w (pos (10 ^ 16)) → m ≡ int_max (pos 1) w → IsBetween (pos 1) m (pos (10 ^ 16))
    least h e = record { from = omega (arith, ints, clamps, e); to = omega (arith, ints, clamps, e, h.to) }
