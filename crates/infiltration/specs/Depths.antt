-- The depth of a rate over a time.
use Rattle.std.specs.Prelude.{ℤ, pos, ◌*ℤ◌}
use Rattle.fixed_num.specs.Ranges.{IsBetween}
use Rattle.fixed_num.specs.Rounding.{quo_of}

-- a rate in nm/h over a time in ms, as a depth in nm (this project's profile)
unfoldable pub depth_of : (rate ms : ℤ) → ℤ
depth_of rate ms = quo_of (rate *ℤ ms) (pos 3_600_000)

-- the length of a runoff step: 1 s to 1 h (ms)
abbrev pub IsRunoffStep : ℤ → Type 0
IsRunoffStep ms = IsBetween (pos 1_000) ms (pos 3_600_000)
