use Rattle.std.proofs.Common.{◌≡◌, ℤ, pos, ◌+ℤ◌, ◌-ℤ◌, ◌*◌, ◌≤◌, ◌<ℤ◌, ◌≤ℤ◌, ℕ, unsigned_abs, FitsSigned, ap, subst, ◌∙◌, rules, arith}
use Rattle.std.specs.Int.{w64}
use Rattle.std.proofs.lemmas.Int.{ints, to_z-of_z}
use Rattle.fixed_num.specs.Ranges.{IsBetween}
use Rattle.fixed_num.specs.Rounding.{rounded}
use Rattle.quick_quotients.proofs.LineLemmas.{rising, falling}
use Rattle.quick_quotients.proofs.line.line_at.Goals as goal
use Rattle.quick_quotients.proofs.line.line_at.Goals.{After-share-share}

record IsShare (y0 y1 share : ℤ) (part run : ℕ) : Type 0 where
  value : share ≡ pos (rounded (unsigned_abs (y1 -ℤ y0) * part) run)
  range : IsBetween (pos 0) share (pos (unsigned_abs (y1 -ℤ y0)))

shared : (c : After-share-share) → IsShare c.args.y0 c.args.y1 c.share-share.result c.args.part c.args.run
shared c =
    let rise = simp (to_z-of_z, c.ranges.y1, c.ranges.y0) at c.abs_diff-rise.ensures in
    record {
      value = c.share-share.ensures.value ∙ ap (λ (n : ℕ). pos (rounded (n * c.args.part) c.args.run)) rise;
      range = subst (λ (n : ℕ). IsBetween (pos 0) c.share-share.result (pos n)) rise c.share-share.ensures.range;
    }

pub returns-then-y0-y1 : goal.returns-then-y0-y1
returns-then-y0-y1 c =
    let s = shared (goal.at.returns-then-y0-y1 c).After-share-share in
    let test = simp (to_z-of_z, c.ranges.y0, c.ranges.y1) at c.if-y0-y1.true in
    let up : c.args.y0 <ℤ c.args.y1 = grind (arith, ints, test) in
    let share : FitsSigned w64 c.share-share.result = search rules in
    let sum : FitsSigned w64 (c.args.y0 +ℤ c.share-share.result) = omega (arith, ints, up, s.range.from, s.range.to, c.ranges.y0, c.ranges.y1) in
    simp (to_z-of_z, c.ranges.y0, share, sum) (ap (λ (z : ℤ). c.args.y0 +ℤ z) s.value ∙ rising c.args.y0 c.args.y1 c.args.part c.args.run up)

pub returns-else-y0-y1 : goal.returns-else-y0-y1
returns-else-y0-y1 c =
    let s = shared (goal.at.returns-else-y0-y1 c).After-share-share in
    let test = simp (to_z-of_z, c.ranges.y0, c.ranges.y1) at c.if-y0-y1.false in
    let down : c.args.y1 ≤ℤ c.args.y0 = grind (arith, ints, test) in
    let share : FitsSigned w64 c.share-share.result = search rules in
    let rest : FitsSigned w64 (c.args.y0 -ℤ c.share-share.result) = omega (arith, ints, down, s.range.from, s.range.to, c.ranges.y0, c.ranges.y1) in
    simp (to_z-of_z, c.ranges.y0, share, rest) (ap (λ (z : ℤ). c.args.y0 -ℤ z) s.value ∙ falling c.args.y0 c.args.y1 c.args.part c.args.run down)
