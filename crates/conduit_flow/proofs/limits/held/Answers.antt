use Rattle.std.proofs.Common.{◌≡◌, ◌^◌, ℤ, pos, ◌-ℤ◌, neg_ℤ, ap, ◌∙◌, arith}
use Rattle.std.proofs.lemmas.Int.{ints, to_z-of_z}
use Rattle.fixed_num.specs.Ranges.{IsBetween, IsWithin, cut_of}
use Rattle.fixed_num.proofs.Bounds.{within_sub, within_neg, within_number, within_between, within_both, fits64, fits128}
use borrow.Author.Differences.{neg_is}
use Rattle.conduit_flow.specs.Limits.{held_of}
use Rattle.conduit_flow.proofs.RangeLemmas.{whole-within}
use Rattle.conduit_flow.proofs.limits.held.Goals as goal
use Rattle.conduit_flow.proofs.limits.held.Goals.{After-cut}

flip : (m : ℤ) → pos 0 -ℤ m ≡ neg_ℤ m
flip m = omega (arith, ints, neg_is m)

value : (c : After-cut) → c.cut.result ≡ held_of c.args.q_max c.args.barrels c.args.q
unfolding held_of
value c =
    let m = within_between c.greatest-most.ensures.range in
    let e = simp (to_z-of_z, c.ranges.q_max, c.ranges.barrels) at c.greatest-most.ensures.value in
    let v = simp (to_z-of_z, fits64 m tt, fits128 m tt, fits128 (within_sub (within_number 0) m) tt, c.ranges.q) at c.cut.ensures.value in
    let w = rw (flip c.greatest-most.result) at v in
    w ∙ ap (λ (z : ℤ). cut_of c.args.q (neg_ℤ z) z) e

between : (c : After-cut) → IsBetween (neg_ℤ c.greatest-most.result) c.cut.result c.greatest-most.result
between c =
    let m = within_between c.greatest-most.ensures.range in
    let v = simp (to_z-of_z, fits64 m tt, fits128 m tt, fits128 (within_sub (within_number 0) m) tt) at c.cut.ensures.between in
    rw (flip c.greatest-most.result) at v

small : (c : After-cut) → IsWithin (10 ^ 12) c.cut.result
small c = let m = within_between c.greatest-most.ensures.range in within_both (between c) (within_neg m) m

pub overflow_cast-result : goal.overflow_cast-result
overflow_cast-result c = simp (to_z-of_z, fits128 (small c) tt) (fits64 (small c) tt)

pub returns-clause-value : goal.returns-clause-value
returns-clause-value c = simp (to_z-of_z, fits128 (small c) tt, fits64 (small c) tt) (value c)

pub returns-clause-range : goal.returns-clause-range
returns-clause-range c = simp (to_z-of_z, fits128 (small c) tt, fits64 (small c) tt) (small c)

pub returns-clause-whole : goal.returns-clause-whole
returns-clause-whole c =
    let whole = simp (to_z-of_z, c.ranges.barrels) at c.greatest-most.ensures.whole in
    simp (to_z-of_z, fits128 (small c) tt, fits64 (small c) tt) (whole-within c.requires.barrels whole (between c))
