-- The differences fit 128 bits, the share of the rise lies between zero and the rise.
use Rattle.std.proofs.Common.{ℤ, pos, ◌+ℤ◌, ◌-ℤ◌, ◌*ℤ◌, ◌≡◌, ap, sym, subst, ◌∙◌, arith, FitsSigned, to_z, of_z}
use Rattle.std.specs.Int.{w64, w128, int_min, int_max}
use Rattle.std.proofs.lemmas.Int.{ints, clamps, to_z-of_z}
use Rattle.fixed_num.specs.Interpolation.{lerp_of}
use Rattle.fixed_num.specs.Ranges.{IsBetween}
use Rattle.fixed_num.specs.Rounding.{quo_of}
use Rattle.fixed_num.proofs.Bounds.{fits_wider}
use Rattle.fixed_num.proofs.interpolation.lerp.Goals as goal
use Rattle.fixed_num.proofs.interpolation.lerp.Goals.{After-share}

-- the share, of the numbers as they are
share_is : (c : After-share) → (c.share.result ≡ quo_of ((c.args.y1 -ℤ c.args.y0) *ℤ (c.args.x -ℤ c.args.x0)) (c.args.x1 -ℤ c.args.x0))
    × IsBetween (int_min (pos 0) (c.args.y1 -ℤ c.args.y0)) c.share.result (int_max (pos 0) (c.args.y1 -ℤ c.args.y0))
share_is c =
    let rise : FitsSigned w128 (c.args.y1 -ℤ c.args.y0) = omega (arith, ints) in
    let part : FitsSigned w128 (c.args.x -ℤ c.args.x0) = omega (arith, ints) in
    let run : FitsSigned w128 (c.args.x1 -ℤ c.args.x0) = omega (arith, ints) in
    let said = simp (to_z-of_z, c.ranges.x0, c.ranges.y0, c.ranges.x1, c.ranges.y1, c.ranges.x, fits_wider c.args.x0 c.ranges.x0, fits_wider c.args.y0 c.ranges.y0, fits_wider c.args.x1 c.ranges.x1, fits_wider c.args.y1 c.ranges.y1, fits_wider c.args.x c.ranges.x, rise, part, run) at c.share.ensures in
    (said.value, said.between)

sum_fits : (c : After-share) → FitsSigned w64 (c.args.y0 +ℤ c.share.result)
sum_fits c = let h = (share_is c).1 in omega (arith, ints, clamps, h.from, h.to)

share_fits : (c : After-share) → FitsSigned w128 c.share.result
share_fits c = omega (arith, ints)

pub overflow_add-result : goal.overflow_add-result
overflow_add-result c =
    simp (to_z-of_z, c.ranges.y0, fits_wider c.args.y0 c.ranges.y0, share_fits c) (fits_wider (c.args.y0 +ℤ c.share.result) (sum_fits c))

pub overflow_cast-result-2 : goal.overflow_cast-result-2
overflow_cast-result-2 c =
    simp (to_z-of_z, c.ranges.y0, fits_wider c.args.y0 c.ranges.y0, share_fits c, fits_wider (c.args.y0 +ℤ c.share.result) (sum_fits c)) (sum_fits c)

sum_is : (c : After-share) → to_z w64 (of_z w64 (to_z w128 (of_z w128 (to_z w128 (of_z w128 (to_z w64 (of_z w64 c.args.y0))) +ℤ to_z w128 (of_z w128 c.share.result)))))
    ≡ c.args.y0 +ℤ c.share.result
sum_is c = simp (to_z-of_z, c.ranges.y0, fits_wider c.args.y0 c.ranges.y0, share_fits c, fits_wider (c.args.y0 +ℤ c.share.result) (sum_fits c), sum_fits c)

pub returns-clause-value : goal.returns-clause-value
unfolding lerp_of
returns-clause-value c = sum_is c ∙ ap (λ (z : ℤ). c.args.y0 +ℤ z) (share_is c).0

pub returns-clause-between : goal.returns-clause-between
returns-clause-between c =
    let h = (share_is c).1 in
    let whole : IsBetween (int_min c.args.y0 c.args.y1) (c.args.y0 +ℤ c.share.result) (int_max c.args.y0 c.args.y1) =
    record { from = omega (arith, ints, clamps, h.from, h.to); to = omega (arith, ints, clamps, h.from, h.to) } in
    subst (λ (z : ℤ). IsBetween (int_min c.args.y0 c.args.y1) z (int_max c.args.y0 c.args.y1)) (sym (sum_is c)) whole
