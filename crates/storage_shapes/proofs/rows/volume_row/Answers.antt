use Rattle.std.proofs.Common.{◌≡◌, ℕ, ◌+◌, ◌*◌, ◌^◌, ◌<◌, ℤ, pos, ◌+ℤ◌, refl, arith}
use Rattle.std.proofs.lemmas.Int.{ints, to_z-of_z}
use Rattle.fixed_num.specs.Ranges.{IsBetween}
use Rattle.fixed_num.specs.Sums.{sum_below}
use Rattle.fixed_num.proofs.Bounds.{within_between, fits128}
use Rattle.storage_shapes.specs.StoreTable.{grid_volume_of, strip_volume_of, volume_row_of}
use Rattle.storage_shapes.proofs.RowLemmas.{filled_all, filled_first, filled_more, sum_between_more, sum_more, sum_most}
use Rattle.storage_shapes.proofs.rows.volume_row.Goals as goal

none : (area : ℤ → ℤ) (full : ℤ) → grid_volume_of area full 0 ≡ pos 0
unfolding grid_volume_of
none area full = refl

more : (area : ℤ → ℤ) (full : ℤ) (i : ℕ) (sum next : ℤ) → sum ≡ sum_below (strip_volume_of area full) i → next ≡ strip_volume_of area full i
    → sum +ℤ next ≡ grid_volume_of area full (i + 1)
unfolding grid_volume_of
more area full i sum next e h = sum_more (strip_volume_of area full) i sum next e h

sum : {i : ℕ} {below strip : ℤ} → i < 200 → IsBetween (pos 0) below (pos (10 ^ 19 * i)) → IsBetween (pos 0) strip (pos (10 ^ 19))
    → IsBetween (pos 0) (below +ℤ strip) (pos (10 ^ 19 * 200))
sum {i = i} h b s = sum_most (10 ^ 19) 200 (i + 1) _ (omega (arith, h)) (sum_between_more (10 ^ 19) i _ _ b s)

pub loop-i-init : goal.loop-i-init
loop-i-init c = record {
  filled = filled_first ℤ (pos 0) _ (none _ _);
  below = refl;
  range = record { from = omega (arith, ints); to = omega (arith, ints) };
}

pub overflow_add-below : goal.overflow_add-below
overflow_add-below c =
    let strip = c.strip_volume-below.ensures.within in
    let below = c.loop-i.invariant.range in
    simp (to_z-of_z, fits128 (within_between strip) tt) (fits128 (within_between (sum c.loop-i-test.true below strip)) tt)

pub loop-i-preserved : goal.loop-i-preserved
loop-i-preserved c =
    let strip = c.strip_volume-below.ensures.within in
    let below = c.loop-i.invariant.range in
    let small_sum = fits128 (within_between (sum c.loop-i-test.true below strip)) tt in
    let small_strip = fits128 (within_between strip) tt in
    let v = simp (to_z-of_z, c.ranges.full) at c.strip_volume-below.ensures.value in
    let i = simp (to_z-of_z, c.ranges.full) at c.loop-i.invariant in
    simp (to_z-of_z, c.ranges.full, small_strip, small_sum) (record {
      filled = filled_more ℤ (pos 0) _ _ (c.loop-i.i + 1) _ (omega arith) i.filled (more _ _ c.loop-i.i _ _ i.below v);
      below = sum_more _ c.loop-i.i _ _ i.below v;
      range = sum_between_more (10 ^ 19) c.loop-i.i _ _ below strip;
    })

pub returns : goal.returns
unfolding volume_row_of
returns c =
    let i = simp (to_z-of_z, c.ranges.full) at c.loop-i.invariant in
    filled_all ℤ (pos 0) _ _ (c.loop-i.i + 1) (omega arith) i.filled
