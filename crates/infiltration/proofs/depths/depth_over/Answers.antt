use Rattle.std.proofs.Common.{◌≡◌, subst, sym, ℤ, ◌≤ℤ◌, ◌*ℤ◌, pos, ◌^◌}
use Rattle.std.proofs.lemmas.Int.{to_z-of_z}
use Rattle.fixed_num.specs.Ranges.{IsBetween}
use Rattle.fixed_num.proofs.Bounds.{within_mul, within_between, fits64, fits128, fits_wider}
use Rattle.infiltration.specs.Depths.{depth_of}
use Rattle.infiltration.proofs.DepthLemmas.{depth_between, depth_slow}
use Rattle.infiltration.proofs.depths.depth_over.Goals as goal
use Rattle.infiltration.proofs.depths.depth_over.Goals.{After-quo}

value : (c : After-quo) → c.quo.result ≡ depth_of c.args.rate c.args.ms
unfolding depth_of
value c =
    let product = within_mul (within_between c.requires.rate) (within_between c.requires.time) in
    simp (to_z-of_z, c.ranges.rate, fits_wider _ c.ranges.rate, c.ranges.ms, fits_wider _ c.ranges.ms, fits128 product tt) at c.quo.ensures.value

small : (c : After-quo) → IsBetween (pos 0) c.quo.result (pos (10 ^ 10))
small c = rw (value c) (depth_between c.requires.rate c.requires.time)

pub overflow_cast-result : goal.overflow_cast-result
overflow_cast-result c = let f = within_between (small c) in simp (to_z-of_z, fits128 f tt) (fits64 f tt)

pub returns-clause-value : goal.returns-clause-value
returns-clause-value c = let f = within_between (small c) in simp (to_z-of_z, fits128 f tt, fits64 f tt) (value c)

pub returns-clause-range : goal.returns-clause-range
returns-clause-range c = let f = within_between (small c) in simp (to_z-of_z, fits128 f tt, fits64 f tt) (small c)

pub returns-clause-slow : goal.returns-clause-slow
returns-clause-slow c =
    let f = within_between (small c) in
    let slow : c.quo.result ≤ℤ (pos 2_778 *ℤ c.args.ms) = subst (λ (z : ℤ). z ≤ℤ (pos 2_778 *ℤ c.args.ms)) (sym (value c)) (depth_slow c.requires.rate c.requires.time) in
    simp (to_z-of_z, fits128 f tt, fits64 f tt) slow
