-- Numbers drawn from a seed (a linear congruence of 64 bits; this project's profile).
use Rattle.std.specs.Prelude.{ℕ, zero, suc, ◌+◌, ◌*◌, ◌/◌, ◌%◌, ◌^◌}

-- the state after one more draw
unfoldable pub next_state : ℕ → ℕ
next_state state = (state * 6_364_136_223_846_793_005 + 1_442_695_040_888_963_407) % 2 ^ 64

-- the state after so many draws from a seed
abbrev pub state_after : (seed count : ℕ) → ℕ
state_after seed zero = seed
state_after seed (suc count) = next_state (state_after seed count)

-- a number below `most` from a state
unfoldable pub number_from : (state most : ℕ) → ℕ
number_from state most = state / 2 ^ 33 % most

-- what the draw that comes after `count` others gives
abbrev pub draw_after : (seed count most : ℕ) → ℕ
draw_after seed count most = number_from (state_after seed (count + 1)) most
