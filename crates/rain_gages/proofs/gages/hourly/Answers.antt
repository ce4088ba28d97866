use Rattle.std.proofs.Common.{◌≡◌, ◌^◌, ◌*◌, pos, ◌*ℤ◌, subst, sym}
use Rattle.std.proofs.lemmas.Int.{to_z-of_z}
use Rattle.fixed_num.specs.Ranges.{IsWithin}
use Rattle.fixed_num.specs.Rounding.{quo_of}
use Rattle.fixed_num.proofs.Bounds.{fits64, fits128, within_between}
use Rattle.rain_gages.specs.Intensity.{hourly_of}
use Rattle.rain_gages.proofs.RateLemmas.{volume_within, hourly_within}
use Rattle.rain_gages.proofs.gages.hourly.Goals as goal
use Rattle.rain_gages.proofs.gages.hourly.Goals.{After-quo}

value : (c : After-quo) → c.quo.result ≡ quo_of (c.args.volume *ℤ pos 3_600_000) c.args.interval
value c =
    let volume = c.requires.volume in
    let interval = within_between c.requires.interval in
    simp (
      to_z-of_z,
      c.ranges.volume,
      c.ranges.interval,
      fits128 volume tt,
      fits128 (volume_within volume) tt,
      fits128
          interval tt,
    ) at c.quo.ensures.value

range : (c : After-quo) → IsWithin (6 * 10 ^ 16) c.quo.result
range c = subst (IsWithin (6 * 10 ^ 16)) (sym (value c)) (hourly_within c.requires.volume c.requires.interval)

pub overflow_cast-result : goal.overflow_cast-result
overflow_cast-result c = simp (to_z-of_z, fits128 (range c) tt) (fits64 (range c) tt)

pub returns-clause-value : goal.returns-clause-value
unfolding hourly_of
returns-clause-value c = simp (to_z-of_z, fits128 (range c) tt, fits64 (range c) tt) (value c)

pub returns-clause-range : goal.returns-clause-range
returns-clause-range c = simp (to_z-of_z, fits128 (range c) tt, fits64 (range c) tt) (range c)
