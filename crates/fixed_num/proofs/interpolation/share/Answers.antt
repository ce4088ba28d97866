-- The size is that of the exact product's quotient, which is at most the rise; the sign is the rise's.
use Rattle.std.proofs.Common.{ℕ, ◌≤◌, ◌*◌, ℤ, pos, neg_ℤ, ◌*ℤ◌, ◌≡◌, ap, sym, subst, ◌∙◌, arith, unsigned_abs, to_z, of_z}
use Rattle.std.specs.Int.{w128, int_min, int_max}
use Rattle.std.proofs.lemmas.Int.{ints, to_z-of_z, to_z_pos, unsigned_abs-mul}
use Rattle.std.proofs.Math.Nat.{mul-le-mul_left}
use Rattle.fixed_num.specs.Ranges.{IsBetween}
use Rattle.fixed_num.specs.Rounding.{quo_of, rounded}
use Rattle.fixed_num.proofs.Between.{share_between, product_from_zero, product_to_zero}
use Rattle.fixed_num.proofs.RoundingLemmas.{quo_of_up, quo_of_down, rounded_most}
use Rattle.fixed_num.proofs.interpolation.share.Goals as goal
use Rattle.fixed_num.proofs.interpolation.share.Goals.{After-rounded-size, After-minus, Else-rise-lt0}

size_is : (c : After-rounded-size) → c.rounded-size.result ≡ rounded (unsigned_abs (c.args.rise *ℤ c.args.part)) (unsigned_abs c.args.run)
size_is c =
    let rise = simp (to_z-of_z, c.ranges.rise) at c.unsigned_abs.ensures.value in
    let part = simp (to_z-of_z, c.ranges.part) at c.unsigned_abs-2.ensures.value in
    let run = simp (to_z-of_z, c.ranges.run) at c.unsigned_abs-3.ensures.value in
    let product = (λ i. rise i * part i) ∙ sym (unsigned_abs-mul c.args.rise c.args.part) in
    c.rounded-size.ensures ∙ (λ i. rounded (product i) (run i))

size_at_most : (c : After-rounded-size) → c.rounded-size.result ≤ unsigned_abs c.args.rise
size_at_most c =
    let rise = c.args.rise in
    let part = c.args.part in
    let run = c.args.run in
    let small : unsigned_abs part ≤ unsigned_abs run = omega (arith, ints) in
    let product = mul-le-mul_left {m = unsigned_abs part} {n = unsigned_abs run} (unsigned_abs rise) small in
    let most = rounded_most (unsigned_abs (rise *ℤ part)) (unsigned_abs run) (unsigned_abs rise) (omega (arith, unsigned_abs-mul rise part)) in
    omega (arith, size_is c)

pub minus-requires : goal.minus-requires
minus-requires c = omega (arith, size_at_most (goal.at.minus-requires c).After-rounded-size, c.requires.rise.within)

pub overflow_cast-result : goal.overflow_cast-result
overflow_cast-result c = omega (arith, ints, size_at_most (goal.at.overflow_cast-result c).After-rounded-size, c.requires.rise.within)

below : (c : After-minus) → to_z w128 (of_z w128 c.minus.result) ≡ quo_of (c.args.rise *ℤ c.args.part) c.args.run
below c =
    let e = size_is (goal.at.returns-then-rise-lt0-clause-value c).After-rounded-size in
    to_z-of_z w128 c.minus.result (omega (arith, ints)) ∙ c.minus.ensures ∙ ap (λ (n : ℕ). neg_ℤ (pos n)) e
    ∙ sym (quo_of_down (c.args.rise *ℤ c.args.part) c.args.run (product_to_zero c.args.rise c.args.part (omega (arith, ints)) c.requires.part.from))

above : (c : Else-rise-lt0) → to_z w128 c.rounded-size.result ≡ quo_of (c.args.rise *ℤ c.args.part) c.args.run
above c =
    let e = size_is (goal.at.returns-else-rise-lt0-clause-value c).After-rounded-size in
    let small = size_at_most (goal.at.returns-else-rise-lt0-clause-value c).After-rounded-size in
    to_z_pos w128 c.rounded-size.result (omega (arith, c.requires.rise.within)) ∙ ap pos e
    ∙ sym (quo_of_up (c.args.rise *ℤ c.args.part) c.args.run (product_from_zero c.args.rise c.args.part (omega (arith, ints)) c.requires.part.from))

between : (rise part run z : ℤ) → IsBetween (pos 0) part run → z ≡ quo_of (rise *ℤ part) run → IsBetween (int_min (pos 0) rise) z (int_max (pos 0) rise)
between rise part run z h e = subst (λ (q : ℤ). IsBetween (int_min (pos 0) rise) q (int_max (pos 0) rise)) (sym e) (share_between rise part run h.from h.to)

pub returns-then-rise-lt0-clause-value : goal.returns-then-rise-lt0-clause-value
returns-then-rise-lt0-clause-value = below

pub returns-else-rise-lt0-clause-value : goal.returns-else-rise-lt0-clause-value
returns-else-rise-lt0-clause-value = above

pub returns-then-rise-lt0-clause-between : goal.returns-then-rise-lt0-clause-between
returns-then-rise-lt0-clause-between c = between c.args.rise c.args.part c.args.run _ c.requires.part (below c)

pub returns-else-rise-lt0-clause-between : goal.returns-else-rise-lt0-clause-between
returns-else-rise-lt0-clause-between c = between c.args.rise c.args.part c.args.run _ c.requires.part (above c)
