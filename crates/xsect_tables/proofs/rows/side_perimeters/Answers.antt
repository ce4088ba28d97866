use Rattle.std.proofs.Common.{◌≡◌, ℕ, ◌+◌, ◌*◌, ◌^◌, ◌<◌, ℤ, pos, ◌+ℤ◌, FitsSigned, arith}
use Rattle.std.specs.Int.{w64}
use Rattle.std.proofs.lemmas.Int.{ints, to_z-of_z}
use Rattle.fixed_num.specs.Ranges.{IsBetween}
use Rattle.fixed_num.proofs.Bounds.{within_between, fits64}
use Rattle.xsect_tables.specs.SectionTable.{grid_width as width_of_grid, grid_perimeter}
use Rattle.xsect_tables.proofs.RowLemmas.{filled_none, filled_more, filled_all}
use Rattle.xsect_tables.proofs.StripLemmas.{perimeter_none, perimeter_more, sum_most, sum_between_more}
use Rattle.xsect_tables.proofs.rows.side_perimeters.Goals as goal
use Rattle.xsect_tables.proofs.rows.side_perimeters.Goals.{After-width_at-wet}

bottom : (c : After-width_at-wet) → c.width_at-wet.result ≡ grid_perimeter c.args.section.now 0
unfolding width_of_grid
bottom c =
    let full : FitsSigned w64 c.args.section.now.full = fits64 (within_between c.requires.full_in) tt in
    let h = simp (to_z-of_z, full) at c.grid_height.ensures.value in
    let w = simp (to_z-of_z, fits64 (within_between c.grid_height.ensures.range) tt) at c.width_at-wet.ensures.value in
    perimeter_none _ _ (cc (h, w))

pub width_at-wet-requires-clause-depth : goal.width_at-wet-requires-clause-depth
width_at-wet-requires-clause-depth c =
    let full = fits64 (within_between c.requires.full_in) tt in
    let small = within_between c.grid_height.ensures.range in
    simp (to_z-of_z, fits64 small tt) (simp (to_z-of_z, full) at c.grid_height.ensures.within)

pub loop-i-init : goal.loop-i-init
loop-i-init c =
    let b = bottom c in
    let fits : FitsSigned w64 c.width_at-wet.result = fits64 (within_between c.width_at-wet.ensures.range) tt in
    let r = c.width_at-wet.ensures.range in
    record {
      filled = simp (to_z-of_z, fits) (filled_more _ _ 0 _ (omega arith) (filled_none _) b);
      wet = simp (to_z-of_z, fits) b;
      range = simp (to_z-of_z, fits) (record { from = r.from; to = omega (arith, ints, r.to) });
    }

sum : {i : ℕ} {wet sides : ℤ} → i < 200 → IsBetween (pos 0) wet (pos (10 ^ 12 * (i + 1))) → IsBetween (pos 0) sides (pos (10 ^ 12)) → IsBetween (pos 0) (wet +ℤ sides) (pos (10 ^ 12 * 201))
sum {i = i} h w s = sum_most (10 ^ 12) 201 (i + 1 + 1) _ (omega (arith, h)) (sum_between_more (10 ^ 12) (i + 1) _ _ w s)

pub overflow_add-wet : goal.overflow_add-wet
overflow_add-wet c =
    let sides = c.strip_sides-wet.ensures.range in
    let wet = c.loop-i.invariant.range in
    simp (to_z-of_z, fits64 (within_between sides) tt) (fits64 (within_between (sum c.loop-i-test.true wet sides)) tt)

pub loop-i-preserved : goal.loop-i-preserved
loop-i-preserved c =
    let sides = c.strip_sides-wet.ensures.range in
    let wet = c.loop-i.invariant.range in
    let small_sum = fits64 (within_between (sum c.loop-i-test.true wet sides)) tt in
    let small_sides = fits64 (within_between sides) tt in
    let more = perimeter_more _ c.loop-i.i _ _ c.loop-i.invariant.wet c.strip_sides-wet.ensures.value in
    record {
      filled = simp (to_z-of_z, small_sides, small_sum) (filled_more _ _ (c.loop-i.i + 1) _ (omega arith) c.loop-i.invariant.filled more);
      wet = simp (to_z-of_z, small_sides, small_sum) more;
      range = simp (to_z-of_z, small_sides, small_sum) (sum_between_more (10 ^ 12) (c.loop-i.i + 1) _ _ wet sides);
    }

pub returns : goal.returns
returns c = filled_all _ _ (c.loop-i.i + 1) (omega arith) c.loop-i.invariant.filled
