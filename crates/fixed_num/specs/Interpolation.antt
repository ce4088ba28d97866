-- Interpolation between two points.
use Rattle.std.specs.Prelude.{ℤ, ◌+ℤ◌, ◌-ℤ◌, ◌*ℤ◌}
use Rattle.fixed_num.specs.Rounding.{quo_of}

-- the value at x of the straight line through (x0, y0) and (x1, y1), rounded once (this project's profile)
unfoldable pub lerp_of : (x0 y0 x1 y1 x : ℤ) → ℤ
lerp_of x0 y0 x1 y1 x = y0 +ℤ quo_of ((y1 -ℤ y0) *ℤ (x -ℤ x0)) (x1 -ℤ x0)
