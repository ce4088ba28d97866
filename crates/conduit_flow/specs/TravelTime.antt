-- The time that a wave takes along a conduit (Reference Manual volume II, chapter 3, variable time steps; in whole
-- numbers by this project's profile).
use Rattle.std.specs.Prelude.{ℤ, pos, ◌+ℤ◌, ◌*ℤ◌}
use Rattle.std.specs.Int.{int_min, int_max}
use Rattle.fixed_num.specs.Rounding.{quo_of}
use Rattle.conduit_flow.specs.declared.geometry.Middle.{Middle}
use Rattle.conduit_flow.specs.Momentum.{flow_speed_of}

-- the speed of a wave that runs with the flow of a barrel, in µm/s, at least 1
unfoldable pub wave_speed_of : (flow : ℤ) → Middle → ℤ
wave_speed_of flow middle = int_max (pos 1) (flow_speed_of flow middle.area +ℤ middle.wave)

-- the time of such a wave along a length, in ms, at most an hour
unfoldable pub travel_time_of : (flow : ℤ) → Middle → (length : ℤ) → ℤ
travel_time_of flow middle length = int_min (pos 3_600_000) (quo_of (length *ℤ pos 1_000) (wave_speed_of flow middle))
