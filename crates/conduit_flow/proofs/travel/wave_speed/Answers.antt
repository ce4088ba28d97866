use Rattle.std.proofs.Common.{◌≡◌, ◌^◌, ◌*◌, ℤ, pos, ◌+ℤ◌, arith}
use Rattle.std.specs.Int.{int_max}
use Rattle.std.proofs.lemmas.Int.{ints, clamps, to_z-of_z}
use Rattle.fixed_num.specs.Ranges.{IsBetween}
use Rattle.fixed_num.proofs.Bounds.{within_between, within_add, fits64}
use Rattle.conduit_flow.specs.TravelTime.{wave_speed_of}
use Rattle.conduit_flow.proofs.travel.wave_speed.Goals as goal
use Rattle.conduit_flow.proofs.travel.wave_speed.Goals.{After-max}

record Waves (c : After-max) : Type 0 where
  both : c.max.result ≡ int_max (pos 1) (c.flow_speed-speed.result +ℤ c.args.middle.now.wave)
  value : c.max.result ≡ wave_speed_of c.args.flow c.args.middle.now

waves : (c : After-max) → Waves c
unfolding wave_speed_of
waves c =
    let area = fits64 (within_between c.requires.middle.area) tt in
    let s = within_between c.flow_speed-speed.ensures.range in
    let w = within_between c.requires.middle.wave in
    let v = simp (to_z-of_z, c.ranges.flow, area) at c.flow_speed-speed.ensures.value in
    let m = simp (to_z-of_z, fits64 s tt, fits64 w tt, fits64 (within_add s w) tt) at c.max.ensures.value in
    record { both = m; value = cc (v, m) }

greater : {x s w : ℤ} → x ≡ int_max (pos 1) (s +ℤ w) → IsBetween (pos 0) s (pos 15_240_000) → IsBetween (pos 0) w (pos (10 ^ 16)) → IsBetween (pos 1) x (pos (2 * 10 ^ 16))
greater e h k = record { from = omega (arith, ints, clamps, h.from, k.from, e); to = omega (arith, ints, clamps, h.to, k.to, e) }

pub returns-clause-value : goal.returns-clause-value
returns-clause-value c =
    let v = waves (goal.at.returns-clause-value c).After-max in
    let r = greater v.both c.flow_speed-speed.ensures.range c.requires.middle.wave in
    simp (to_z-of_z, fits64 (within_between r) tt) v.value

pub returns-clause-range : goal.returns-clause-range
returns-clause-range c =
    let v = waves (goal.at.returns-clause-range c).After-max in
    let r = greater v.both c.flow_speed-speed.ensures.range c.requires.middle.wave in
    simp (to_z-of_z, fits64 (within_between r) tt) r
