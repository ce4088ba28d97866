-- The reaches of a sample: a tree of conduits, each from a junction of its own to one of the four junctions before
-- it, and the first one to the outfall (this project's profile).
use Rattle.std.specs.Prelude.{ℕ, zero, suc, ◌+◌, ◌-◌, ◌*◌, ◌==◌, min, if◌then◌else◌, List, [], ◌∷◌, ◌++◌}
use Rattle.std.specs.Prelude.{slice_index_or, Option, None, Some}
use Rattle.sample_maker.specs.Draws.{draw_after}
use Rattle.sample_maker.specs.declared.reaches.Reach.{Reach}

-- the elevations of junctions in cm, by their numbers
abbrev pub elevation_at : List Reach → ℕ → ℕ
elevation_at reaches number = (slice_index_or reaches number
    (record { number = 0; below = None; elevation = 0; length = 0; diameter = 0; inflow = 0 })).elevation

-- the junction below a junction that isn't the first one
abbrev pub junction_below : (seed number : ℕ) → ℕ
junction_below seed number = number - 1 - draw_after seed (5 * number - 2) (min number 4)

abbrev pub below_of : (seed number : ℕ) → Option ℕ
below_of seed number = if number == 0 then None else Some (junction_below seed number)

-- the elevation in cm of a junction, which lies 5 to 24 cm above the one below it, and the first one at 1 m
abbrev pub elevation_over : (seed : ℕ) → List Reach → (number : ℕ) → ℕ
elevation_over seed before number =
    if number == 0 then 100
    else elevation_at before (junction_below seed number) + 5 + draw_after seed (5 * number - 1) 20

-- a reach over those before it: 50 to 99 m long, 60 to 100 cm in diameter, with an inflow of 1 to 9 l/s
unfoldable pub reach_over : (seed : ℕ) → List Reach → (number : ℕ) → Reach
reach_over seed before number = record {
  number = number;
  below = below_of seed number;
  elevation = elevation_over seed before number;
  length = 50 + draw_after seed (5 * number) 50;
  diameter = 60 + 10 * draw_after seed (5 * number + 1) 5;
  inflow = 1 + draw_after seed (5 * number + 2) 9;
}

-- the first so many reaches
unfoldable pub reaches_of : (seed count : ℕ) → List Reach
reaches_of seed zero = []
reaches_of seed (suc count) = reaches_of seed count ++ reach_over seed (reaches_of seed count) count ∷ []
