use Rattle.std.proofs.Common.{◌≡◌, ◌+◌, ◌/◌, ◌≤◌, ◌<◌, ◌^◌, ℕ, pos, unsigned_abs, refl, ap, sym, subst, ◌∙◌, arith}
use Rattle.std.specs.Int.{w64}
use Rattle.std.proofs.lemmas.Int.{ints, to_z-of_z, to_z_pos}
use Rattle.fixed_num.specs.Ranges.{IsBetween}
use Rattle.fixed_num.specs.Rounding.{quo_of, rounded}
use Rattle.fixed_num.proofs.RoundingLemmas.{quo_of_up, rounded_le}
use Rattle.quick_quotients.proofs.LineLemmas.{half_up}
use Rattle.quick_quotients.proofs.quotient.quick_quo.Goals as goal
use Rattle.quick_quotients.proofs.quotient.quick_quo.Goals.{After-unsigned_abs-k}

record IsQuick (c : After-unsigned_abs-k) : Type 0 where
  is : (c.unsigned_abs-n.result + c.unsigned_abs-k.result / 2) / c.unsigned_abs-k.result ≡ rounded (unsigned_abs c.args.a) (unsigned_abs c.args.b)
  most : (c.unsigned_abs-n.result + c.unsigned_abs-k.result / 2) / c.unsigned_abs-k.result ≤ unsigned_abs c.args.a

quick : (c : After-unsigned_abs-k) → IsQuick c
quick c =
    let n = simp (to_z-of_z, c.ranges.a) at c.unsigned_abs-n.ensures.value in
    let k = simp (to_z-of_z, c.ranges.b) at c.unsigned_abs-k.ensures.value in
    let some : 0 < c.unsigned_abs-k.result = omega (arith, ints, k, c.requires.b.from) in
    let half = half_up c.unsigned_abs-n.result c.unsigned_abs-k.result _ some refl in
    let is = half ∙ (λ i. rounded (n i) (k i)) in
    record { is = is; most = omega (arith, is, rounded_le (unsigned_abs c.args.a) (unsigned_abs c.args.b)) }

pub overflow_cast-result : goal.overflow_cast-result
overflow_cast-result c = omega (arith, ints, (quick (goal.at.overflow_cast-result c).After-unsigned_abs-k).most, c.requires.a.from, c.requires.a.to)

pub returns-clause-value : goal.returns-clause-value
returns-clause-value c =
    let q = quick (goal.at.returns-clause-value c).After-unsigned_abs-k in
    to_z_pos w64 _ (omega (arith, ints, q.most, c.requires.a.from, c.requires.a.to)) ∙ ap pos q.is ∙ sym (quo_of_up c.args.a c.args.b c.requires.a.from)

pub returns-clause-range : goal.returns-clause-range
returns-clause-range c =
    let q = quick (goal.at.returns-clause-range c).After-unsigned_abs-k in
    subst (λ z. IsBetween (pos 0) z c.args.a) (sym (to_z_pos w64 _ (omega (arith, ints, q.most, c.requires.a.from, c.requires.a.to))))
    (record { from = omega (arith, ints); to = omega (arith, ints, q.most, c.requires.a.from) })
