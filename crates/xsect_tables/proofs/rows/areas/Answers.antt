use Rattle.std.proofs.Common.{◌≡◌, ℕ, ◌+◌, ◌*◌, ◌^◌, ◌<◌, ℤ, pos, ◌+ℤ◌, refl, sym, subst, to_z, ◌∙◌, arith}
use Rattle.std.specs.Int.{w128}
use Rattle.std.proofs.lemmas.Int.{ints, to_z-of_z}
use Rattle.fixed_num.specs.Ranges.{IsBetween}
use Rattle.fixed_num.specs.Rounding.{quo_of}
use Rattle.fixed_num.proofs.Bounds.{within_between, fits64, fits128, between_quo_by, le_number}
use Rattle.xsect_tables.proofs.RowLemmas.{filled_first, filled_more, filled_all}
use Rattle.xsect_tables.proofs.StripLemmas.{area_none, area_more, sum_more, sum_most, sum_between_more}
use Rattle.xsect_tables.proofs.rows.areas.Goals as goal
use Rattle.xsect_tables.proofs.rows.areas.Goals.{After-quo}

pub loop-i-init : goal.loop-i-init
loop-i-init c = record { filled = filled_first _ (area_none _); below = refl; range = record { from = omega (arith, ints); to = omega (arith, ints) } }

sum : {i : ℕ} {below strip : ℤ} → i < 200 → IsBetween (pos 0) below (pos (3 * 10 ^ 20 * i)) → IsBetween (pos 0) strip (pos (3 * 10 ^ 20)) → IsBetween (pos 0) (below +ℤ strip) (pos (3 * 10 ^ 20 * 200))
sum {i = i} h b s = sum_most (3 * 10 ^ 20) 200 (i + 1) _ (omega (arith, h)) (sum_between_more (3 * 10 ^ 20) i _ _ b s)

pub overflow_add-below : goal.overflow_add-below
overflow_add-below c =
    let strip = c.strip_area-below.ensures.range in
    let below = c.loop-i.invariant.range in
    simp (to_z-of_z, fits128 (within_between strip) tt) (fits128 (within_between (sum c.loop-i-test.true below strip)) tt)

quotient : (c : After-quo) → c.quo.result ≡ quo_of (to_z w128 c.loop-i.below-bits +ℤ c.strip_area-below.result) (pos 1_000_000)
quotient c =
    let strip = c.strip_area-below.ensures.range in
    let below = c.loop-i.invariant.range in
    simp (to_z-of_z, fits128 (within_between strip) tt, fits128 (within_between (sum c.loop-i-test.true below strip)) tt) at c.quo.ensures.value

small : (c : After-quo) → IsBetween (pos 0) c.quo.result (pos (10 ^ 17))
small c =
    let q = between_quo_by {y = pos 1_000_000} 1_000_000 (sum c.loop-i-test.true c.loop-i.invariant.range c.strip_area-below.ensures.range) (le_number tt) tt in
    subst (λ (z : ℤ). IsBetween (pos 0) z (pos (10 ^ 17))) (sym (quotient c)) (record { from = q.from; to = omega (arith, ints, q.to) })

pub overflow_cast-row : goal.overflow_cast-row
overflow_cast-row c = simp (to_z-of_z, fits128 (within_between (small c)) tt) (fits64 (within_between (small c)) tt)

pub loop-i-preserved : goal.loop-i-preserved
loop-i-preserved c =
    let strip = c.strip_area-below.ensures.range in
    let below = c.loop-i.invariant.range in
    let small_sum = fits128 (within_between (sum c.loop-i-test.true below strip)) tt in
    let small_strip = fits128 (within_between strip) tt in
    let area = quotient c ∙ area_more _ c.loop-i.i _ _ c.loop-i.invariant.below c.strip_area-below.ensures.value in
    record {
      filled = simp (to_z-of_z, fits128 (within_between (small c)) tt, fits64 (within_between (small c)) tt) (filled_more _ _ (c.loop-i.i + 1) _ (omega arith) c.loop-i.invariant.filled area);
      below = simp (to_z-of_z, small_strip, small_sum) (sum_more _ c.loop-i.i _ _ c.loop-i.invariant.below c.strip_area-below.ensures.value);
      range = simp (to_z-of_z, small_strip, small_sum) (sum_between_more (3 * 10 ^ 20) c.loop-i.i _ _ below strip);
    }

pub returns : goal.returns
returns c = filled_all _ _ (c.loop-i.i + 1) (omega arith) c.loop-i.invariant.filled
