use Rattle.std.proofs.Common.{ℕ, ◌≤◌, pos, neg_ℤ, ◌≡◌, ap, sym, subst, ◌∙◌, arith, unsigned_abs, to_z, of_z}
use Rattle.std.specs.Int.{w128}
use Rattle.std.proofs.lemmas.Int.{ints, to_z-of_z, to_z_pos}
use Rattle.fixed_num.specs.Rounding.{IsNearest, quo_of, rounded}
use Rattle.fixed_num.proofs.RoundingLemmas.{IsNearest-quo_of, quo_of_up, quo_of_down, rounded_le}
use Rattle.fixed_num.proofs.rounding.quo.Goals as goal
use Rattle.fixed_num.proofs.rounding.quo.Goals.{After-rounded-size, After-minus, Else-a-lt0}

size_is : (c : After-rounded-size) → c.rounded-size.result ≡ rounded (unsigned_abs c.args.a) (unsigned_abs c.args.b)
size_is c =
    let a = simp (to_z-of_z, c.ranges.a) at c.unsigned_abs.ensures.value in
    let b = simp (to_z-of_z, c.ranges.b) at c.unsigned_abs-2.ensures.value in
    c.rounded-size.ensures ∙ (λ i. rounded (a i) (b i))

size_at_most : (c : After-rounded-size) → c.rounded-size.result ≤ unsigned_abs c.args.a
size_at_most c = let small = rounded_le (unsigned_abs c.args.a) (unsigned_abs c.args.b) in omega (arith, size_is c)

pub minus-requires : goal.minus-requires
minus-requires c = omega (arith, ints, size_at_most (goal.at.minus-requires c).After-rounded-size)

pub overflow_cast-result : goal.overflow_cast-result
overflow_cast-result c = omega (arith, ints, size_at_most (goal.at.overflow_cast-result c).After-rounded-size)

below : (c : After-minus) → to_z w128 (of_z w128 c.minus.result) ≡ quo_of c.args.a c.args.b
below c =
    let e = size_is (goal.at.returns-then-a-lt0-clause-value c).After-rounded-size in
    to_z-of_z w128 c.minus.result (omega (arith, ints)) ∙ c.minus.ensures ∙ ap (λ (n : ℕ). neg_ℤ (pos n)) e
    ∙ sym (quo_of_down c.args.a c.args.b (omega (arith, ints)))

above : (c : Else-a-lt0) → to_z w128 c.rounded-size.result ≡ quo_of c.args.a c.args.b
above c =
    let e = size_is (goal.at.returns-else-a-lt0-clause-value c).After-rounded-size in
    let small = size_at_most (goal.at.returns-else-a-lt0-clause-value c).After-rounded-size in
    to_z_pos w128 c.rounded-size.result (omega (arith, ints)) ∙ ap pos e ∙ sym (quo_of_up c.args.a c.args.b (omega (arith, ints)))

pub returns-then-a-lt0-clause-value : goal.returns-then-a-lt0-clause-value
returns-then-a-lt0-clause-value = below

pub returns-else-a-lt0-clause-value : goal.returns-else-a-lt0-clause-value
returns-else-a-lt0-clause-value = above

pub returns-then-a-lt0-clause-nearest : goal.returns-then-a-lt0-clause-nearest
returns-then-a-lt0-clause-nearest c = subst (IsNearest c.args.a c.args.b) (sym (below c)) (IsNearest-quo_of c.args.a c.args.b c.requires)

pub returns-else-a-lt0-clause-nearest : goal.returns-else-a-lt0-clause-nearest
returns-else-a-lt0-clause-nearest c = subst (IsNearest c.args.a c.args.b) (sym (above c)) (IsNearest-quo_of c.args.a c.args.b c.requires)
