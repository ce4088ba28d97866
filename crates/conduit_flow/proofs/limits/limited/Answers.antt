use Rattle.std.proofs.Common.{◌≡◌, ◌^◌, ℤ, pos, FitsSigned, sym, ◌∙◌, arith, rules}
use Rattle.std.specs.Int.{w128, int_min}
use Rattle.std.proofs.lemmas.Int.{ints, clamps, to_z-of_z}
use Rattle.fixed_num.specs.Ranges.{IsBetween, IsWithin}
use Rattle.fixed_num.proofs.Bounds.{within_sub, within_between, fits64, fits128}
use Rattle.conduit_flow.specs.Limits.{limited_of}
use Rattle.conduit_flow.proofs.limits.limited.Goals as goal

pub returns-clause-value : goal.returns-clause-value
unfolding limited_of
returns-clause-value c =
    let z1 = c.requires.conduit.z1 in
    let z2 = c.requires.conduit.z2 in
    let depth = fits64 (within_between c.requires.ends.depth1) tt in
    let n6 = fits64 (within_between c.requires.conduit.n6) tt in
    let length = fits64 (within_between c.requires.conduit.length) tt in
    let least : FitsSigned w128 c.min.result = search rules in
    let test = simp (to_z-of_z, c.ranges.q) at c.is_limited.ensures in
    let holds = sym test ∙ c.if-not-is_limited.false in
    let n = simp (to_z-of_z, depth, n6, fits64 z1 tt, fits64 z2 tt, fits64 (within_sub z1 z2) tt, length) at c.normal_flow.ensures.value in
    let m = simp (to_z-of_z, c.ranges.q, fits128 (within_between c.normal_flow.ensures.range) tt) at c.min.ensures.value in
    simp (to_z-of_z, least) (rw holds (cc (n, m)))

pub normal_flow-requires-clause-depth : goal.normal_flow-requires-clause-depth
normal_flow-requires-clause-depth c = let depth = within_between c.requires.ends.depth1 in simp (to_z-of_z, fits64 depth tt) depth

least_within : {q normal least : ℤ} → IsWithin (10 ^ 24) q → IsBetween (pos 0) normal (pos (10 ^ 31)) → least ≡ int_min q normal → IsWithin (10 ^ 24) least
least_within h k e = record { within = omega (arith, ints, clamps, h.within, k.from, e) }

pub returns-clause-range : goal.returns-clause-range
returns-clause-range c =
    let least : FitsSigned w128 c.min.result = search rules in
    let m = simp (to_z-of_z, c.ranges.q, fits128 (within_between c.normal_flow.ensures.range) tt) at c.min.ensures.value in
    simp (to_z-of_z, least) (least_within c.requires.q c.normal_flow.ensures.range m)
