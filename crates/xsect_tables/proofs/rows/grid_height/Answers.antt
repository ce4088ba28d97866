use Rattle.std.proofs.Common.{◌≡◌, ◌^◌, ℤ, pos, sym, subst, arith}
use Rattle.std.specs.Int.{w128}
use Rattle.std.proofs.lemmas.Int.{ints, to_z-of_z, to_z_pos}
use Rattle.fixed_num.specs.Ranges.{IsBetween}
use Rattle.fixed_num.proofs.Bounds.{between_mul, within_between, fits64, fits128, fits_wider}
use Rattle.xsect_tables.specs.SectionTable.{grid_height as height_of_grid}
use Rattle.xsect_tables.proofs.GridLemmas.{grid_between, grid_in_full}
use Rattle.xsect_tables.proofs.rows.grid_height.Goals as goal
use Rattle.xsect_tables.proofs.rows.grid_height.Goals.{After-quo}

place : (c : After-quo) → IsBetween (pos 0) (pos c.args.i) (pos 200)
place c = record { from = omega (arith, ints); to = omega (arith, ints) }

value : (c : After-quo) → c.quo.result ≡ height_of_grid c.args.full c.args.i
unfolding height_of_grid
value c =
    let product = between_mul (place c) c.requires.full in
    simp (to_z-of_z, to_z_pos w128 c.args.i (omega arith), c.ranges.full, fits_wider _ c.ranges.full, fits128 (within_between product) tt) at c.quo.ensures.value

range : (c : After-quo) → IsBetween (pos 0) c.quo.result (pos (10 ^ 9))
range c = subst (λ (z : ℤ). IsBetween (pos 0) z (pos (10 ^ 9))) (sym (value c)) (grid_between c.requires.full c.args.i c.requires.place)

pub returns-clause-value : goal.returns-clause-value
returns-clause-value c = simp (to_z-of_z, fits128 (within_between (range c)) tt, fits64 (within_between (range c)) tt) (value c)

pub returns-clause-within : goal.returns-clause-within
returns-clause-within c =
    let inside = grid_in_full c.requires.full c.args.i c.requires.place in
    simp (to_z-of_z, c.ranges.full, fits128 (within_between (range c)) tt, fits64 (within_between (range c)) tt) (rw (value c) inside)

pub returns-clause-range : goal.returns-clause-range
returns-clause-range c = simp (to_z-of_z, fits128 (within_between (range c)) tt, fits64 (within_between (range c)) tt) (range c)
