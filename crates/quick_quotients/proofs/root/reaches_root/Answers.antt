use Rattle.std.proofs.Common.{◌≡◌, ℤ, pos, ◌+ℤ◌, ◌*ℤ◌, ◌-◌, ◌^◌, ◌≤ℤ◌, ◌<ℤ◌, FitsSigned, sym, arith}
use Rattle.std.specs.Int.{w128}
use Rattle.std.proofs.lemmas.Int.{ints, to_z-of_z}
use Rattle.fixed_num.specs.Ranges.{IsBetween}
use Rattle.fixed_num.proofs.Bounds.{within_add, within_mul, within_number, within_between, fits128}
use Rattle.quick_quotients.proofs.RootLemmas.{below_zero, wide, reaching, missing}
use Rattle.quick_quotients.proofs.root.reaches_root.Goals as goal

pub returns-then-v-lt0 : goal.returns-then-v-lt0
returns-then-v-lt0 c = let h = simp (to_z-of_z, c.ranges.v) at c.if-v-lt0.true in sym (below_zero c.args.v c.args.a (grind (arith, ints, h)))

pub returns-then-v-gt-WIDE : goal.returns-then-v-gt-WIDE
returns-then-v-gt-WIDE c = let h = simp (to_z-of_z, c.ranges.v) at c.if-v-gt-WIDE.true in sym (wide c.args.v c.args.a (grind (arith, ints, h)) c.requires)

pub returns-then-a-next : goal.returns-then-a-next
returns-then-a-next c =
    let low = simp (to_z-of_z, c.ranges.v) at c.if-v-lt0.false in
    let from : pos 0 ≤ℤ c.args.v = grind (arith, ints, low) in
    let high = simp (to_z-of_z, c.ranges.v) at c.if-v-gt-WIDE.false in
    let small : IsBetween (pos 0) c.args.v (pos (2 ^ 63 - 1)) = record { from = from; to = grind (arith, ints, high) } in
    let next = within_add (within_between small) (within_number 1) in
    let test = simp (to_z-of_z, c.ranges.v, c.ranges.a, fits128 next tt, fits128 (within_mul next next) tt) at c.if-a-next.true in
    sym (reaching c.args.v c.args.a from (grind (arith, ints, test)))

pub returns : goal.returns
returns c =
    let low = simp (to_z-of_z, c.ranges.v) at c.if-v-lt0.false in
    let from : pos 0 ≤ℤ c.args.v = grind (arith, ints, low) in
    let high = simp (to_z-of_z, c.ranges.v) at c.if-v-gt-WIDE.false in
    let small : IsBetween (pos 0) c.args.v (pos (2 ^ 63 - 1)) = record { from = from; to = grind (arith, ints, high) } in
    let next = within_add (within_between small) (within_number 1) in
    let test = simp (to_z-of_z, c.ranges.v, c.ranges.a, fits128 next tt, fits128 (within_mul next next) tt) at c.if-a-next.false in
    sym (missing c.args.v c.args.a from (grind (arith, ints, test)))
