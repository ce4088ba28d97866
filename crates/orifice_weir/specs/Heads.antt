-- The heads over the edge of an opening: the sill of an orifice or the crest of a weir (µm).
use Rattle.std.specs.Prelude.{if◌then◌else◌, ℤ, pos, neg_ℤ, ◌-ℤ◌, ◌*ℤ◌, int_lt}
use Rattle.std.specs.Int.{int_max, int_min}
use Rattle.fixed_num.specs.Rounding.{quo_of}

-- how far the greater head is above an edge
unfoldable pub upper_of : (near far edge : ℤ) → ℤ
upper_of near far edge = int_max near far -ℤ edge

-- how far the lesser head is above it: at least 0
unfoldable pub lower_of : (near far edge : ℤ) → ℤ
lower_of near far edge = int_max (int_min near far -ℤ edge) (pos 0)

-- a flow has the direction of the fall: it runs from the first end where the head there is not the lesser
unfoldable pub directed_of : (near far size : ℤ) → ℤ
directed_of near far size = if int_lt near far then neg_ℤ size else size

-- a part of a height, by millionths
unfoldable pub part_of : (height part6 : ℤ) → ℤ
part_of height part6 = quo_of (height *ℤ part6) (pos 1_000_000)
